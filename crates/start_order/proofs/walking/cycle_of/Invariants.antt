use Rattle.start_order.specs.Graph.{AreMarks}
use Rattle.start_order.proofs.WalkLemmas.{IsWalking}
use Rattle.start_order.proofs.walking.cycle_of.Given as goal

abbrev pub invariant-loop : goal.invariant-loop
invariant-loop l = IsWalking l.graph.edges.now l.left.keys l.unit l.walk l.next l.seen × AreMarks l.graph.units.now l.graph.edges.now l.left.keys l.marks
