use Rattle.start_order.proofs.CycleLemmas.{cycle_law}
use Rattle.start_order.proofs.laws.a_cycle_is_a_ring.Goals as goal

pub returns : goal.returns
returns c = cycle_law
