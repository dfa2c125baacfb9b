use Rattle.owed_plan.proofs.StoreLemmas.{systems_law}
use Rattle.owed_plan.proofs.laws.systems_stand_in_the_store.Goals as goal

pub returns : goal.returns
returns c = systems_law
