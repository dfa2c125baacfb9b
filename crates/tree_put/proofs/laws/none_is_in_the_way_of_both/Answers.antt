use Rattle.tree_put.proofs.FirstLemmas.{none_of_both}
use Rattle.tree_put.proofs.laws.none_is_in_the_way_of_both.Goals as goal

pub returns : goal.returns
returns c = none_of_both
