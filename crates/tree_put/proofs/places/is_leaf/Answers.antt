use Rattle.std.proofs.Common.{rules}
use Rattle.tree_put.proofs.places.is_leaf.Goals as goal

pub returns-in-Some : goal.returns-in-Some
returns-in-Some c = search rules
