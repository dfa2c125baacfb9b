use Rattle.unit_decide.proofs.TableLemmas.{settled_nothing}
use Rattle.unit_decide.proofs.laws.a_unit_that_stays_the_same_is_left.Goals as goal

pub returns : goal.returns
returns c = settled_nothing
