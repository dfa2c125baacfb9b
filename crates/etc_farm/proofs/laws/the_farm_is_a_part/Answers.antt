use Rattle.etc_farm.proofs.PartLemmas.{farm_is}
use Rattle.etc_farm.proofs.laws.the_farm_is_a_part.Goals as goal

pub returns : goal.returns
returns c = farm_is
