use Rattle.unit_defs.specs.Defs.{found_in}
use Rattle.unit_stage.proofs.OrderLemmas.{in_order_by}
use Rattle.unit_stage.proofs.planning.ordered_by.Goals as goal

pub returns : goal.returns
returns c = in_order_by (found_in c.args.new.now) c.args.starts.now c.in_ok-edges.edges c.in_ok-ordered.ordered c.in_ok-edges.ensures c.in_ok-ordered.ensures
