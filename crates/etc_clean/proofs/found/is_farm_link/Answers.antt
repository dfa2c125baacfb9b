use Rattle.std.proofs.Common.{rules}
use Rattle.etc_clean.proofs.found.is_farm_link.Goals as goal

pub returns-then-is_into_static : goal.returns-then-is_into_static
returns-then-is_into_static c = search rules steps 300000
