use Rattle.std.proofs.Common.{◌≡◌, take, map}
use Rattle.unit_defs.specs.Defs.{wants_for}
use Rattle.unit_defs.proofs.answering.wanting.wants_of.Given as goal

abbrev pub invariant-loop-unit : goal.invariant-loop-unit
invariant-loop-unit l = l.wants ≡ map (wants_for l.units) (take l.unit-index l.units)
