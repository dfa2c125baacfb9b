use Rattle.start_order.specs.Graph.{AreMarks}
use Rattle.start_order.proofs.UnderWayLemmas.{IsUnderWay}
use Rattle.start_order.proofs.ordering.order.Given as goal

abbrev pub invariant-loop : goal.invariant-loop
invariant-loop l = IsUnderWay l.units l.edges l.left.keys l.free.keys l.ordered × AreMarks l.units l.edges l.left.keys l.marks
