use Rattle.std.proofs.Common.{sym}
use Rattle.start_order.proofs.OrderLemmas.{first_among}
use Rattle.start_order.proofs.TakeLemmas.{stuck_first_of}
use Rattle.start_order.proofs.breaking.add_broken.Goals as goal

pub cycle_of-requires-clause-is_left : goal.cycle_of-requires-clause-is_left
cycle_of-requires-clause-is_left c =
    first_among c.args.left.now.keys c.in-Some.unit.now (stuck_first_of c.args.graph.now.edges.now c.args.left.now.keys c.in-Some.unit.now (sym c.in-Some.ensures)).1
