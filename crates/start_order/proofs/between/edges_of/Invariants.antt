use Rattle.std.proofs.Common.{◌≡◌, ◌++◌, map}
use Rattle.start_order.specs.Edges.{edge_of}
use Rattle.start_order.proofs.between.edges_of.Given as goal

-- the edges so far and those of the pairs that are left are all
abbrev pub invariant-loop-before : goal.invariant-loop-before
invariant-loop-before l = l.edges ++ map edge_of l.before-iterator ≡ map edge_of l.fn.pairs.keys
