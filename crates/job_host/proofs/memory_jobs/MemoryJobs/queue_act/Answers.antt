use Rattle.std.proofs.Common.{◌≡◌, ◌++◌, ◌∷◌, [], List, refl, sym, ap, subst, ◌∙◌, inl, arith}
use Rattle.std.proofs.lemmas.Result.{on_ok_weaker}
use Rattle.host_memory.specs.MemoryHost.{manager_of}
use Rattle.host_trait.specs.Change.{Perform, finished}
use Rattle.host_trait.specs.declared.entry.Act.{Act}
use Rattle.host_trait.specs.Host.{Becomes, Passes}
use Rattle.host_trait.specs.States.{AreStates}
use Rattle.host_trait.specs.World.{WorldState}
use Rattle.host_trait.proofs.Moments.{started}
use Rattle.switch_names.specs.Names.{Name}
use Rattle.job_host.specs.Jobs.{IsSubmitMoment}
use Rattle.job_host.specs.MemoryJobs.{settled_host}
use Rattle.job_host.specs.Settled.{AreDistinct, Job, settled}
use Rattle.job_host.proofs.MemoryLemmas.{states_still, still_submit, submitted_moments, submitted_ok, submitted_states, was_entered, was_still}
use Rattle.job_host.proofs.QueueLemmas.{distinct_with}
use Rattle.job_host.proofs.memory_jobs.MemoryJobs.queue_act.Goals as goal

-- a queue with room for a job and then with it
grown_by : (queue : List Job) (act : Act) (unit name : Name) (job : Job) (room after : List Job) →
    room ≡ queue → after ≡ room ++ job ∷ [] → job ≡ record { act = act; unit = name } → name ≡ unit → after ≡ queue ++ record { act = act; unit = unit } ∷ []
grown_by queue act unit name job room after same pushed is copied =
    pushed ∙ ap (λ (jobs : List Job). jobs ++ job ∷ []) same ∙ ap (λ one. queue ++ one ∷ []) (is ∙ ap (λ n. record { act = act; unit = n }) copied)

pub returns-in_err-reserve-clause-moments : goal.returns-in_err-reserve-clause-moments
returns-in_err-reserve-clause-moments c =
    subst (λ jobs. Passes (settled_host c.args.self.now.queue.items c.args.self.now.host) (settled_host jobs c.args.self.now.host) (IsSubmitMoment c.args.act c.args.unit.now))
    (sym c.reserve.ensures.items) (started (IsSubmitMoment c.args.act c.args.unit.now) (λ w is. inl refl))

pub returns-in_err-copy-clause-moments : goal.returns-in_err-copy-clause-moments
returns-in_err-copy-clause-moments c =
    subst (λ jobs. Passes (settled_host c.args.self.now.queue.items c.args.self.now.host) (settled_host jobs c.args.self.now.host) (IsSubmitMoment c.args.act c.args.unit.now))
    (sym c.reserve.ensures.items) (started (IsSubmitMoment c.args.act c.args.unit.now) (λ w is. inl refl))

pub invariant_of-self-then-clock : goal.invariant_of-self-then-clock
invariant_of-self-then-clock c =
    let host = c.args.self.now.host in let new = c.enter-answer.new.self in let queue = c.args.self.now.queue.items in let act = c.args.act in let unit = c.args.unit.now in
    let grown = grown_by queue act unit c.in_ok-copy.field-0 c.new-job.result _ _ c.reserve.ensures.items c.push_reserved.ensures.items c.new-job.ensures c.in_ok-copy.ensures in
    let more = c.if-clock.true in let was = c.clock-clock.ensures in let is = c.clock.ensures in
    let enters = was_entered act unit host new c.enter-answer.ensures.moments (omega (arith, more, was, is)) in
    record {
      distinct = subst AreDistinct (sym grown) (distinct_with queue (record { act = act; unit = unit }) c.args.self.now.distinct c.requires);
      states =
          subst (λ jobs. AreStates (settled jobs (manager_of new)).states) (sym grown)
          (submitted_states queue act unit c.requires host new c.args.self.now.states enters c.as_str-name.ensures.is_name);
    }

pub invariant_of-self-else-clock : goal.invariant_of-self-else-clock
invariant_of-self-else-clock c =
    let host = c.args.self.now.host in let new = c.enter-answer.new.self in let queue = c.args.self.now.queue.items in let act = c.args.act in let unit = c.args.unit.now in
    let more = c.if-clock.false in let was = c.clock-clock.ensures in let is = c.clock.ensures in
    let still = was_still act unit host new c.enter-answer.ensures.moments (omega (arith, more, was, is)) in
    record {
      distinct = subst AreDistinct (sym c.reserve.ensures.items) c.args.self.now.distinct;
      states =
          subst (λ jobs. AreStates (settled jobs (manager_of new)).states) (sym c.reserve.ensures.items)
          (states_still queue host new (ap (λ (w : WorldState). w.manager) still.world) c.args.self.now.states);
    }

pub returns-then-clock-clause-ok : goal.returns-then-clock-clause-ok
returns-then-clock-clause-ok c =
    let host = c.args.self.now.host in let new = c.enter-answer.new.self in let queue = c.args.self.now.queue.items in let act = c.args.act in let unit = c.args.unit.now in
    let grown = grown_by queue act unit c.in_ok-copy.field-0 c.new-job.result _ _ c.reserve.ensures.items c.push_reserved.ensures.items c.new-job.ensures c.in_ok-copy.ensures in
    on_ok_weaker c.enter-answer.result
    (λ enters.
    subst (λ jobs. Becomes (settled_host queue host) (settled_host jobs new) (finished (Perform act unit))) (sym grown)
    (submitted_ok queue act unit c.requires host new c.args.self.now.states enters))
    c.enter-answer.ensures.ok

pub returns-then-clock-clause-moments : goal.returns-then-clock-clause-moments
returns-then-clock-clause-moments c =
    let host = c.args.self.now.host in let new = c.enter-answer.new.self in let queue = c.args.self.now.queue.items in let act = c.args.act in let unit = c.args.unit.now in
    let grown = grown_by queue act unit c.in_ok-copy.field-0 c.new-job.result _ _ c.reserve.ensures.items c.push_reserved.ensures.items c.new-job.ensures c.in_ok-copy.ensures in
    let more = c.if-clock.true in let was = c.clock-clock.ensures in let is = c.clock.ensures in
    let enters = was_entered act unit host new c.enter-answer.ensures.moments (omega (arith, more, was, is)) in
    subst (λ jobs. Passes (settled_host queue host) (settled_host jobs new) (IsSubmitMoment act unit)) (sym grown)
    (submitted_moments queue act unit c.requires host new c.args.self.now.states enters)

pub returns-else-clock-clause-moments : goal.returns-else-clock-clause-moments
returns-else-clock-clause-moments c =
    let host = c.args.self.now.host in let new = c.enter-answer.new.self in let queue = c.args.self.now.queue.items in let act = c.args.act in let unit = c.args.unit.now in
    let more = c.if-clock.false in let was = c.clock-clock.ensures in let is = c.clock.ensures in
    let still = was_still act unit host new c.enter-answer.ensures.moments (omega (arith, more, was, is)) in
    subst (λ jobs. Passes (settled_host queue host) (settled_host jobs new) (IsSubmitMoment act unit)) (sym c.reserve.ensures.items)
    (still_submit act unit host new c.enter-answer.ensures.moments queue still)
