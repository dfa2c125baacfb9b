use Rattle.unit_stage.proofs.MomentLemmas.{underway_law}
use Rattle.unit_stage.proofs.laws.switch_is_underway.Goals as goal

pub returns : goal.returns
returns c = underway_law
