use Rattle.std.proofs.Common.{rules}
use Rattle.etc_farm.proofs.lists.is_made.Goals as goal

pub returns-in-Direct : goal.returns-in-Direct
returns-in-Direct c = search rules steps 300000
