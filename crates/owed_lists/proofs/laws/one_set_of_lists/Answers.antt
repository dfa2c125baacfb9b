use Rattle.owed_lists.proofs.ListLemmas.{same_lists}
use Rattle.owed_lists.proofs.laws.one_set_of_lists.Goals as goal

pub returns : goal.returns
returns c = same_lists
