use Rattle.std.proofs.Common.{◌≡◌}
use Rattle.std.proofs.lemmas.Result.{IfOk-weaker}
use Rattle.host_memory.specs.MemoryHost as memory
use Rattle.host_trait.specs.Host.{Told}
use Rattle.host_trait.proofs.Moments.{told_before}
use Rattle.host_trait.proofs.Readings.{read_then}
use Rattle.job_host.specs.MemoryJobs.{host_of}
use Rattle.job_host.proofs.MemoryLemmas.{none_wait_told, still_reads}
use Rattle.job_host.proofs.QueueLemmas.{no_jobs}
use Rattle.job_host.proofs.WaitLemmas.{none_waits}
use Rattle.job_host.proofs.memory_calls.MemoryJobsJobs.units_now.Goals as goal

pub returns-clause-states : goal.returns-clause-states
returns-clause-states c =
    let host = c.turn.new.self.host in let queue = c.turn.new.self.queue.items in
    IfOk-weaker c.units.result (λ states. Told (memory.host_of host) (λ w. states ≡ w.manager.states)) (λ states. Told (host_of c.args.self.now) (λ w. states ≡ w.manager.states))
    (λ states told. told_before c.turn.ensures.reads.moments (none_wait_told queue host (λ w. states ≡ w.manager.states) (no_jobs queue (none_waits _ _ c.requires c.turn.ensures.waits)) told))
    c.units.ensures.states

pub returns-clause-reads : goal.returns-clause-reads
returns-clause-reads c =
    read_then c.turn.ensures.reads (still_reads c.turn.new.self.queue.items c.turn.new.self.host c.units.new.self _ c.units.ensures.still c.units.ensures.reads)
