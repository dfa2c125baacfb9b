use Rattle.std.proofs.Common.{take}
use Rattle.start_order.specs.Graph.{AreRows, afters_of, befores_of}
use Rattle.start_order.proofs.graph.rows_of.Given as goal

abbrev pub invariant-loop-edge : goal.invariant-loop-edge
invariant-loop-edge l = AreRows l.units l.befores (befores_of (take l.edge-index l.edges)) × AreRows l.units l.afters (afters_of (take l.edge-index l.edges))
