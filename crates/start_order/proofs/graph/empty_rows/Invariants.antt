use Rattle.std.proofs.Common.{◌≡◌, [], replicate}
use Rattle.start_order.proofs.graph.empty_rows.Given as goal

abbrev pub invariant-loop : goal.invariant-loop
invariant-loop l = l.rows ≡ replicate l.counter []
