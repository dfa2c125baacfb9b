use Rattle.std.proofs.Common.{◌≡◌, drop}
use Rattle.start_order.specs.Check.{stand_once}
use Rattle.start_order.proofs.checking.stand_once.Given as goal

abbrev pub invariant-loop-at : goal.invariant-loop-at
invariant-loop-at l = stand_once l.names ≡ stand_once (drop l.at l.names)
