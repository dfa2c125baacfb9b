use Rattle.unit_stage.proofs.UnitsPartLemmas.{unit_moment_law}
use Rattle.unit_stage.proofs.laws.moments_are_of_the_part.Goals as goal

pub returns : goal.returns
returns c = unit_moment_law
