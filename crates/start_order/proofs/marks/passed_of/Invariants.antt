use Rattle.std.proofs.Common.{◌≡◌, false, take}
use Rattle.std.specs.List.{list_any}
use Rattle.start_order.specs.Graph.{is_open}
use Rattle.start_order.proofs.marks.passed_of.Given as goal

abbrev pub invariant-loop-at : goal.invariant-loop-at
invariant-loop-at l = list_any (is_open l.taken) (take l.at l.row) ≡ false
