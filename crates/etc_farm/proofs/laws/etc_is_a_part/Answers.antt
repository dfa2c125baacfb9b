use Rattle.etc_farm.proofs.EtcLemmas.{etc_part_law, etc_plan_law}
use Rattle.etc_farm.proofs.laws.etc_is_a_part.Goals as goal

pub returns-clause-part : goal.returns-clause-part
returns-clause-part c = etc_part_law

pub returns-clause-plans_stay : goal.returns-clause-plans_stay
returns-clause-plans_stay c = etc_plan_law
