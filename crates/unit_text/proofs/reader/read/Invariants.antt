use Rattle.std.proofs.Common.{◌≡◌, ◌+◌, ◌<◌, length, map, IfSome}
use Rattle.unit_text.specs.Lines.{without_line_feed}
use Rattle.unit_text.specs.TextFault.{text_fault}
use Rattle.unit_text.specs.UnitText.{assignments}
use Rattle.unit_text.specs.Reader.{fault_left, assignments_left}
use Rattle.unit_text.proofs.reader.read.Given as goal

-- what was read and what is left is the whole file
abbrev pub invariant-loop-line : goal.invariant-loop-line
invariant-loop-line l = record {
  counted : l.number + length l.line-iterator ≡ length l.initial.line-iterator;
  before : IfSome l.reader.bad (λ bad. bad < l.number + 1);
  fault : fault_left l.reader (l.number + 1) (map without_line_feed l.line-iterator) ≡ text_fault l.fn.bytes;
  all : assignments_left l.reader (l.number + 1) (map without_line_feed l.line-iterator) ≡ assignments l.fn.bytes;
}
