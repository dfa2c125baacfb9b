use Rattle.std.proofs.Common.{rules}
use Rattle.id_memory.proofs.free.free_id.Goals as goal

pub returns-then-from-to : goal.returns-then-from-to
returns-then-from-to c = search rules steps 300000

pub returns-else-from-to : goal.returns-else-from-to
returns-else-from-to c = search rules steps 300000
