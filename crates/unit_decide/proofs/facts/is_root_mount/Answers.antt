use Rattle.std.proofs.Common.{rules}
use Rattle.unit_decide.proofs.facts.is_root_mount.Goals as goal

pub returns-else-eq : goal.returns-else-eq
returns-else-eq c = search rules steps 300000
