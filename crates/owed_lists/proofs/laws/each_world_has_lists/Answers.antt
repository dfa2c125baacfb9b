use Rattle.owed_lists.proofs.ListLemmas.{lists_in}
use Rattle.owed_lists.proofs.laws.each_world_has_lists.Goals as goal

pub returns : goal.returns
returns c = lists_in
