use Rattle.activation_stage.proofs.ActivationLemmas.{activation_plan_law}
use Rattle.activation_stage.proofs.laws.plans_stay.Goals as goal

pub returns : goal.returns
returns c = activation_plan_law
