use Rattle.activation_stage.proofs.AgainLemmas.{activation_again_law}
use Rattle.activation_stage.proofs.laws.what_was_activated_stays.Goals as goal

pub returns : goal.returns
returns c = activation_again_law
