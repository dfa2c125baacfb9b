use Rattle.std.proofs.Common.{map, take}
use Rattle.host_trait.proofs.Orders.{AreBelow}
use Rattle.etc_clean.proofs.walk.find_from.Given as goal

-- those so far come before the name
abbrev pub invariant-loop-at : goal.invariant-loop-at
invariant-loop-at g l = AreBelow (take l.at (map g.T.Placed.place_of l.list)) l.name
