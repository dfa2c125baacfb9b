use Rattle.std.proofs.Common.{◌≡◌, length}
use Rattle.node_text.specs.Fields.{digits_at}
use Rattle.node_text.proofs.fields.digits_at.Given as goal

-- reading on gives what reading from the start gives
abbrev pub invariant-loop-rest : goal.invariant-loop-rest
invariant-loop-rest l = digits_at l.end l.number l.rest ≡ digits_at l.end l.start l.bytes

abbrev pub decreases-loop-rest : goal.decreases-loop-rest
decreases-loop-rest l = length l.rest
