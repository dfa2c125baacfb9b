use Rattle.std.proofs.Common.{rules}
use Rattle.host_trait.proofs.leaf_map.is_listed.Goals as goal

pub returns-then-is_below : goal.returns-then-is_below
returns-then-is_below c = search rules steps 500000
