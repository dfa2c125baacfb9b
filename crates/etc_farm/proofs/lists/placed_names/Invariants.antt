use Rattle.std.proofs.Common.{◌≡◌, take}
use Rattle.std.specs.List.Sorted.{IsStrictlySortedBy}
use Rattle.host_trait.specs.World.{bytes_cmp}
use Rattle.etc_farm.specs.Steps.{placed_but}
use Rattle.etc_farm.proofs.lists.placed_names.Given as goal

-- the items so far are looked at
abbrev pub invariant-loop-item : goal.invariant-loop-item
invariant-loop-item l = IsStrictlySortedBy bytes_cmp l.blocked → l.names ≡ placed_but l.blocked (take l.item-index l.items)
