use Rattle.tree_put.proofs.FirstLemmas.{none_as_listed}
use Rattle.tree_put.proofs.laws.none_is_in_the_way_as_listed.Goals as goal

pub returns : goal.returns
returns c = none_as_listed
