use Rattle.unit_stage.proofs.UnitsPartLemmas.{units_part_law}
use Rattle.unit_stage.proofs.laws.units_are_a_part.Goals as goal

pub returns : goal.returns
returns c = units_part_law
