use Rattle.start_order.proofs.SameEdgeLemmas.{one_edges_law}
use Rattle.start_order.proofs.laws.one_list_of_edges_is_there.Goals as goal

pub returns : goal.returns
returns c = one_edges_law
