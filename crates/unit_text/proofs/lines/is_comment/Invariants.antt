use Rattle.std.proofs.Common.{◌≡◌, drop}
use Rattle.unit_text.specs.Lines.{is_comment}
use Rattle.unit_text.proofs.lines.is_comment.Given as goal

-- what is left decides
abbrev pub invariant-loop-byte : goal.invariant-loop-byte
invariant-loop-byte l = is_comment (drop l.byte-index l.line) ≡ is_comment l.line
