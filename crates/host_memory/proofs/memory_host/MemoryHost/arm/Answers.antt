use Rattle.host_memory.proofs.Hosts.{stands}
use Rattle.host_memory.proofs.memory_host.MemoryHost.arm.Goals as goal

pub returns-clause-moments : goal.returns-clause-moments
returns-clause-moments c = stands c.args.self.now.history c.args.self.now.troubles c.arm.new.self
