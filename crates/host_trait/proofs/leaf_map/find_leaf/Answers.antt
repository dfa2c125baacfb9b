use Rattle.std.proofs.Common.{sym, ◌∙◌}
use Rattle.host_trait.proofs.Places.{found}
use Rattle.host_trait.proofs.leaf_map.find_leaf.Goals as goal

pub returns : goal.returns
returns c = c.get.ensures.value ∙ sym (found c.args.leaves.now.entries c.args.at.now)
