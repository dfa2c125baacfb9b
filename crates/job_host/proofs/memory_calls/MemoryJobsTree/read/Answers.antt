use Rattle.host_trait.proofs.Readings.{read_then}
use Rattle.job_host.proofs.MemoryLemmas.{still_reads}
use Rattle.job_host.proofs.memory_calls.MemoryJobsTree.read.Goals as goal

pub returns-clause-reads : goal.returns-clause-reads
returns-clause-reads c =
    read_then c.turn.ensures.reads (still_reads c.turn.new.self.queue.items c.turn.new.self.host c.read.new.self _ c.read.ensures.still c.read.ensures.reads)
