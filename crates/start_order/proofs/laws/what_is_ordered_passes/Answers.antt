use Rattle.start_order.proofs.CheckLemmas.{check_law}
use Rattle.start_order.proofs.laws.what_is_ordered_passes.Goals as goal

pub returns : goal.returns
returns c = check_law
