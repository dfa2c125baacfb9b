use Rattle.std.proofs.Common.{[]}
use Rattle.unit_text.specs.Index.{IsIndexOf}
use Rattle.unit_text.proofs.index.Index.of.Given as goal

-- the assignments so far are applied
abbrev pub invariant-loop-assignment : goal.invariant-loop-assignment
invariant-loop-assignment l = IsIndexOf [] l.yielded l.index
