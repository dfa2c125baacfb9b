use Rattle.std.proofs.Common.{◌≡◌, take}
use Rattle.unit_defs.proofs.unit.copies.Given as goal

abbrev pub invariant-loop-name : goal.invariant-loop-name
invariant-loop-name l = l.copied ≡ take l.name-index l.names
