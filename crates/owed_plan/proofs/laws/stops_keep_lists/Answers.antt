use Rattle.owed_plan.proofs.ListLemmas.{list_law}
use Rattle.owed_plan.proofs.laws.stops_keep_lists.Goals as goal

pub returns : goal.returns
returns c = list_law
