use Rattle.unit_decide.proofs.TableLemmas.{removed_either}
use Rattle.unit_decide.proofs.laws.a_unit_that_goes_is_stopped_or_left.Goals as goal

pub returns : goal.returns
returns c = removed_either
