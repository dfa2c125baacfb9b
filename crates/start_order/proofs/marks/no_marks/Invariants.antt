use Rattle.std.proofs.Common.{◌≡◌, false, replicate}
use Rattle.start_order.proofs.marks.no_marks.Given as goal

abbrev pub invariant-loop : goal.invariant-loop
invariant-loop l = (l.taken ≡ replicate l.index false) × (l.passed ≡ replicate l.index 0)
