use Rattle.start_order.proofs.OneLemmas.{one_cycle_law}
use Rattle.start_order.proofs.laws.one_cycle_is_there.Goals as goal

pub returns : goal.returns
returns c = one_cycle_law
