use Rattle.tree_put.proofs.FirstLemmas.{of_sorted}
use Rattle.tree_put.proofs.laws.of_sorted_places_it_is_the_first.Goals as goal

pub returns : goal.returns
returns c = of_sorted
