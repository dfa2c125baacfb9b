use Rattle.std.proofs.Common.{◌≡◌, ◌++◌, map, drop, take}
use Rattle.std.specs.List.{AllByRecursion}
use Rattle.manager_core.specs.StateText.{IsLine, lines_text}
use Rattle.manager_core.specs.declared.line.Line.TheVariants as line
use Rattle.manager_core.proofs.writing.write_journal.Given as goal

-- what was written and what is left is the whole
abbrev pub invariant-loop-one : goal.invariant-loop-one
invariant-loop-one l = record {
  text : l.out.items ++ lines_text (map line.Entry (drop l.one-index l.journal)) ≡ l.fn.out.items ++ lines_text (map line.Entry l.journal);
  lines : AllByRecursion IsLine (map line.Entry (take l.one-index l.journal));
}
