use Rattle.etc_farm.proofs.MomentLemmas.{making_law}
use Rattle.etc_farm.proofs.laws.steps_are_moments.Goals as goal

pub returns : goal.returns
returns c = making_law
