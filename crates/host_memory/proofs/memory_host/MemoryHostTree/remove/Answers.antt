use Rattle.host_memory.proofs.memory_host.MemoryHostTree.remove.Goals as goal

pub returns-clause-beside : goal.returns-clause-beside
returns-clause-beside c = c.change.ensures.beside tt
