use Rattle.owed_log.proofs.ListLemmas.{one_lists}
use Rattle.owed_log.proofs.laws.one_set_of_lists.Goals as goal

pub returns : goal.returns
returns c = one_lists
