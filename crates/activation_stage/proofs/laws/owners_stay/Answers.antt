use Rattle.activation_stage.proofs.ActivationLemmas.{owners_law}
use Rattle.activation_stage.proofs.laws.owners_stay.Goals as goal

pub returns : goal.returns
returns c = owners_law
