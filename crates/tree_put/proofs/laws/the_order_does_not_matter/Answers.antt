use Rattle.tree_put.proofs.FirstLemmas.{same_places}
use Rattle.tree_put.proofs.laws.the_order_does_not_matter.Goals as goal

pub returns : goal.returns
returns c = same_places
