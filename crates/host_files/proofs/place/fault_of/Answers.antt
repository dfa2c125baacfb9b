use Rattle.std.proofs.Common.{rules}
use Rattle.host_files.proofs.place.fault_of.Goals as goal

pub returns-in-OutOfMemory : goal.returns-in-OutOfMemory
returns-in-OutOfMemory c = search rules steps 300000
