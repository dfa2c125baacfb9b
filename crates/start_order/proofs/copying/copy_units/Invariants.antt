use Rattle.std.proofs.Common.{◌≡◌, take}
use Rattle.start_order.proofs.copying.copy_units.Given as goal

abbrev pub invariant-loop-unit : goal.invariant-loop-unit
invariant-loop-unit l = l.copied ≡ take l.unit-index l.units
