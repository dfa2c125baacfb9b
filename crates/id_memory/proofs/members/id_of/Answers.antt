use Rattle.std.proofs.Common.{rules}
use Rattle.id_memory.proofs.members.id_of.Goals as goal

pub returns-then-id-from : goal.returns-then-id-from
returns-then-id-from c = search rules steps 300000

pub returns-else-id-from : goal.returns-else-id-from
returns-else-id-from c = search rules steps 300000
