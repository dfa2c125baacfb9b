use Rattle.owed_log.proofs.ListLemmas.{some_lists}
use Rattle.owed_log.proofs.laws.each_world_has_lists.Goals as goal

pub returns : goal.returns
returns c = some_lists
