use Rattle.owed_plan.proofs.ListLemmas.{one_owed}
use Rattle.owed_plan.proofs.laws.one_is_owed.Goals as goal

pub returns : goal.returns
returns c = one_owed
