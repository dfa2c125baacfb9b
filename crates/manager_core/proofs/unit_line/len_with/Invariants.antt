use Rattle.std.proofs.Common.{◌≡◌, ◌+◌, length, map, take}
use Rattle.manager_core.specs.StateText.{lines_text}
use Rattle.manager_core.specs.declared.line.Line.TheVariants as line
use Rattle.manager_core.proofs.unit_line.len_with.Given as goal

-- the lines so far
abbrev pub invariant-loop-one : goal.invariant-loop-one
invariant-loop-one l = l.len ≡ l.fn.before + length (lines_text (map line.State (take l.one-index l.units)))
