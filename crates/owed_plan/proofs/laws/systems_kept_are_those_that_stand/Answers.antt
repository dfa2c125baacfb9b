use Rattle.owed_plan.proofs.SystemLemmas.{systems_same}
use Rattle.owed_plan.proofs.laws.systems_kept_are_those_that_stand.Goals as goal

pub returns : goal.returns
returns c = systems_same
