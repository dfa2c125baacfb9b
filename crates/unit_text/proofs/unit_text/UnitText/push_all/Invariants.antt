use Rattle.std.proofs.Common.{◌≡◌, ◌++◌, take}
use Rattle.unit_text.proofs.unit_text.UnitText.push_all.Given as goal

abbrev pub invariant-loop-assignment : goal.invariant-loop-assignment
invariant-loop-assignment l = l.self ≡ l.initial.self ++ take l.assignment-index l.assignments
