use Rattle.std.proofs.lemmas.Result.{on_ok_weaker}
use Rattle.host_trait.specs.Change.{DaemonReload, IsMoment, finished}
use Rattle.job_host.proofs.JobLemmas.{then_moments, then_ok, waited}
use Rattle.job_host.proofs.MemoryLemmas.{none_wait_moments, none_wait_ok, none_wait_states}
use Rattle.job_host.proofs.QueueLemmas.{no_jobs}
use Rattle.job_host.proofs.WaitLemmas.{none_waits}
use Rattle.job_host.proofs.memory_calls.MemoryJobsJobs.reread.Goals as goal

pub returns-in_err-turn-clause-moments : goal.returns-in_err-turn-clause-moments
returns-in_err-turn-clause-moments c = waited DaemonReload c.turn.ensures.reads.moments

pub invariant_of-self : goal.invariant_of-self
invariant_of-self c =
    let queue = c.turn.new.self.queue.items in
    record { distinct = c.turn.new.self.distinct; states = none_wait_states queue c.daemon_reload.new.self (no_jobs queue (none_waits _ _ c.requires c.turn.ensures.waits)) }

pub returns-clause-ok : goal.returns-clause-ok
returns-clause-ok c =
    let queue = c.turn.new.self.queue.items in
    on_ok_weaker c.daemon_reload.result
    (λ is.
    then_ok DaemonReload c.turn.ensures.reads.moments
    (none_wait_ok queue c.turn.new.self.host c.daemon_reload.new.self (finished DaemonReload) (no_jobs queue (none_waits _ _ c.requires c.turn.ensures.waits)) is))
    c.daemon_reload.ensures.ok

pub returns-clause-moments : goal.returns-clause-moments
returns-clause-moments c =
    let queue = c.turn.new.self.queue.items in
    then_moments DaemonReload c.turn.ensures.reads.moments
    (none_wait_moments queue c.turn.new.self.host c.daemon_reload.new.self (IsMoment DaemonReload) (no_jobs queue (none_waits _ _ c.requires c.turn.ensures.waits)) c.daemon_reload.ensures.moments)
