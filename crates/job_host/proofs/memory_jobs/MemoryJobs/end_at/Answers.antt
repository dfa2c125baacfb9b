use Rattle.std.proofs.Common.{List, length, ◌++◌, ◌∷◌, [], Some, refl, sym, ap, subst, ◌∙◌}
use Rattle.std.proofs.lemmas.Option.{slice_get-get_or}
use Rattle.host_memory.specs.declared.history.DoneCall.{DoneCall}
use Rattle.host_memory.specs.MemoryHost.{TakesEffect, manager_of}
use Rattle.host_trait.specs.Change.{IsSame}
use Rattle.host_trait.specs.Host.{Passes}
use Rattle.host_trait.specs.Waiting.{StaysWithin}
use Rattle.host_trait.specs.States.{AreStates}
use Rattle.host_trait.specs.declared.manager_state.ManagerState.{ManagerState}
use Rattle.host_trait.proofs.Causes.{ok_no_device}
use Rattle.host_trait.proofs.Readings.{no_device}
use Rattle.job_host.specs.MemoryJobs.{settled_host}
use Rattle.job_host.specs.Settled.{AreDistinct, settled, units_in}
use Rattle.job_host.proofs.MemoryLemmas.{distinct_left, left_same, left_settled, quiet_cause, still_same, waits_left}
use Rattle.job_host.proofs.memory_jobs.MemoryJobs.end_at.Goals as goal

pub returns-in_err-reserve-clause-reads : goal.returns-in_err-reserve-clause-reads
returns-in_err-reserve-clause-reads c =
    let host = c.args.self.now.host in let queue = c.args.self.now.queue.items in
    record { moments = still_same queue host host (record { world = refl; calls = refl }); cause = quiet_cause host host queue queue _ refl (no_device _ c.from_residual.ensures.1) }

pub returns-in_err-take_effect-clause-reads : goal.returns-in_err-take_effect-clause-reads
returns-in_err-take_effect-clause-reads c =
    let host = c.args.self.now.host in let queue = c.args.self.now.queue.items in
    record {
      moments = still_same queue host c.take_effect.new.self c.in_err-take_effect.ensures.err;
      cause = quiet_cause host c.take_effect.new.self queue queue _ c.take_effect.ensures.troubles (no_device _ c.from_residual-in_err-take_effect.ensures.1);
    }

pub invariant_of-self-2 : goal.invariant_of-self-2
invariant_of-self-2 c =
    let host = c.args.self.now.host in let queue = c.args.self.now.queue.items in let new = c.take_effect.new.self in let job = c.index-job.result.now in
    let takes : TakesEffect job.act job.unit host new =
    subst (λ unit. TakesEffect job.act unit host new) c.unit.ensures (subst (λ act. TakesEffect act c.unit.result.now host new) c.act.ensures c.in_ok-take_effect.ensures.ok) in
    record {
      distinct = subst AreDistinct (sym c.remove-job.ensures.items) (distinct_left queue c.args.at c.requires c.args.self.now.distinct host new job c.index-job.ensures);
      states =
          subst (λ jobs. AreStates (settled jobs (manager_of new)).states) (sym c.remove-job.ensures.items)
          (subst (λ (m : ManagerState). AreStates m.states) (sym (left_settled queue c.args.at c.requires c.args.self.now.distinct host new job c.index-job.ensures takes)) c.args.self.now.states);
    }

pub returns-clause-ok : goal.returns-clause-ok
returns-clause-ok c =
    let removed = c.remove-job.result in
    record {
      job = removed;
      there = slice_get-get_or c.args.self.now.queue.items c.args.at removed c.requires ∙ ap Some (sym c.remove-job.ensures.value);
      queue = c.remove-job.ensures.items;
      ended =
          c.push_reserved.ensures.items
          ∙ ap (λ units. units ++ c.into_unit.result ∷ []) c.reserve.ensures.items
          ∙ ap (λ unit. c.args.self.now.ended.items ++ unit ∷ []) c.into_unit.ensures;
    }

pub returns-clause-waits : goal.returns-clause-waits
returns-clause-waits c =
    let host = c.args.self.now.host in let queue = c.args.self.now.queue.items in let new = c.take_effect.new.self in let job = c.index-job.result.now in
    subst (λ jobs. StaysWithin (units_in queue) (units_in jobs)) (sym c.remove-job.ensures.items)
    (waits_left queue c.args.at c.requires c.args.self.now.distinct host new job c.index-job.ensures)

pub returns-clause-reads : goal.returns-clause-reads
returns-clause-reads c =
    let host = c.args.self.now.host in let queue = c.args.self.now.queue.items in let new = c.take_effect.new.self in let job = c.index-job.result.now in
    let takes : TakesEffect job.act job.unit host new =
    subst (λ unit. TakesEffect job.act unit host new) c.unit.ensures (subst (λ act. TakesEffect act c.unit.result.now host new) c.act.ensures c.in_ok-take_effect.ensures.ok) in
    record {
      moments =
          subst (λ jobs. Passes (settled_host queue host) (settled_host jobs new) IsSame) (sym c.remove-job.ensures.items)
          (left_same queue c.args.at c.requires c.args.self.now.distinct host new job c.index-job.ensures takes);
      cause = quiet_cause host new queue c.remove-job.new.self.items _ c.take_effect.ensures.troubles (ok_no_device tt);
    }

pub returns-clause-clock : goal.returns-clause-clock
returns-clause-clock c = ap (λ (calls : List DoneCall). length calls) c.in_ok-take_effect.ensures.ok.calls

pub returns-in_err-take_effect-clause-clock : goal.returns-in_err-take_effect-clause-clock
returns-in_err-take_effect-clause-clock c = ap (λ (calls : List DoneCall). length calls) c.in_err-take_effect.ensures.err.calls
