use Rattle.std.proofs.Common.{◌≡◌, ◌++◌, take}
use Rattle.unit_text.proofs.index.push_copies.Given as goal

abbrev pub invariant-loop-one : goal.invariant-loop-one
invariant-loop-one l = l.values.items ≡ l.initial.values.items ++ take l.one-index l.others
