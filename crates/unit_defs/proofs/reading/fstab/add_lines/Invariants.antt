use Rattle.std.proofs.Common.{take}
use Rattle.unit_defs.specs.Found.{JoinsLines}
use Rattle.unit_defs.proofs.reading.fstab.add_lines.Given as goal

-- the lines so far are joined
abbrev pub invariant-loop-line : goal.invariant-loop-line
invariant-loop-line l = JoinsLines (take l.line-index l.lines) l.fn.found l.found
