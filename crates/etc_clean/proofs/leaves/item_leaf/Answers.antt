use Rattle.std.proofs.Common.{rules}
use Rattle.etc_clean.proofs.leaves.item_leaf.Goals as goal

pub returns-in-Copied : goal.returns-in-Copied
returns-in-Copied c = search rules steps 300000
