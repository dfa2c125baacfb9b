use Rattle.std.proofs.Common.{◌≡◌}
use Rattle.std.proofs.lemmas.Result.{IfOk-weaker}
use Rattle.host_memory.specs.MemoryHost as memory
use Rattle.host_trait.specs.Host.{Told}
use Rattle.host_trait.proofs.Moments.{told_before}
use Rattle.host_trait.proofs.Readings.{read_then}
use Rattle.job_host.specs.MemoryJobs.{host_of}
use Rattle.job_host.proofs.MemoryLemmas.{still_reads, told_loaded}
use Rattle.job_host.proofs.memory_calls.MemoryJobsJobs.loaded_now.Goals as goal

pub returns-clause-loaded : goal.returns-clause-loaded
returns-clause-loaded c =
    let host = c.turn.new.self.host in
    IfOk-weaker c.loaded.result (λ text. Told (memory.host_of host) (λ w. text ≡ w.manager.loaded)) (λ text. Told (host_of c.args.self.now) (λ w. text ≡ w.manager.loaded))
    (λ text told. told_before c.turn.ensures.reads.moments (told_loaded c.turn.new.self.queue.items host text told)) c.loaded.ensures.loaded

pub returns-clause-reads : goal.returns-clause-reads
returns-clause-reads c =
    read_then c.turn.ensures.reads (still_reads c.turn.new.self.queue.items c.turn.new.self.host c.loaded.new.self _ c.loaded.ensures.still c.loaded.ensures.reads)
