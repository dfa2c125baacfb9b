use Rattle.std.proofs.Common.{◌≡◌, take}
use Rattle.start_order.proofs.copying.copy_edges.Given as goal

abbrev pub invariant-loop-edge : goal.invariant-loop-edge
invariant-loop-edge l = l.copied ≡ take l.edge-index l.edges
