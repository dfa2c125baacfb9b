use Rattle.std.proofs.Common.{◌≡◌, take}
use Rattle.switch_names.specs.Names.{Name, has}
use Rattle.etc_clean.proofs.order.set_of.Given as goal

-- the set has the names so far
abbrev pub invariant-loop-name : goal.invariant-loop-name
invariant-loop-name l = (q : Name) → has l.set.keys q ≡ has (take l.name-index l.names) q
