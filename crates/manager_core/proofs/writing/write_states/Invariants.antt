use Rattle.std.proofs.Common.{◌≡◌, ◌++◌, map, drop}
use Rattle.manager_core.specs.StateText.{lines_text}
use Rattle.manager_core.specs.declared.line.Line.TheVariants as line
use Rattle.manager_core.proofs.writing.write_states.Given as goal

-- what was written and what is left is the whole
abbrev pub invariant-loop-one : goal.invariant-loop-one
invariant-loop-one l = l.out.items ++ lines_text (map line.State (drop l.one-index l.units)) ≡ l.fn.out.items ++ lines_text (map line.State l.units)
