use Rattle.job_host.proofs.MemoryLemmas.{still_reads}
use Rattle.job_host.proofs.memory_calls.MemoryJobsTree.sync.Goals as goal

pub returns-clause-reads : goal.returns-clause-reads
returns-clause-reads c = still_reads c.args.self.now.queue.items c.args.self.now.host c.sync.new.self _ c.sync.ensures.still c.sync.ensures.reads
