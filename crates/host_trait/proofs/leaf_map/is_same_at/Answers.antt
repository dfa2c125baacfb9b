use Rattle.std.proofs.Common.{rules}
use Rattle.host_trait.proofs.leaf_map.is_same_at.Goals as goal

pub returns-then-is_stage : goal.returns-then-is_stage
returns-then-is_stage c = search rules steps 500000
