use Rattle.host_trait.proofs.Readings.{nothing_read_ok}
use Rattle.host_memory.proofs.Admitted.{still}
use Rattle.host_memory.proofs.memory_host.MemoryHostTree.sync.Goals as goal

pub returns-clause-reads : goal.returns-clause-reads
returns-clause-reads c = nothing_read_ok tt

pub returns-clause-same : goal.returns-clause-same
returns-clause-same c = still c.args.self.now.history c.args.self.now.troubles c.args.self.now.troubles
