use Rattle.etc_farm.proofs.AgainLemmas.{etc_again_law, farm_again_law}
use Rattle.etc_farm.proofs.laws.what_was_made_stays.Goals as goal

pub returns-clause-farm : goal.returns-clause-farm
returns-clause-farm c = farm_again_law

pub returns-clause-etc : goal.returns-clause-etc
returns-clause-etc c = etc_again_law
