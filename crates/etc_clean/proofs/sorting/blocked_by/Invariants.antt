use Rattle.std.proofs.Common.{◌≡◌, filter, take}
use Rattle.std.specs.List.{list_any}
use Rattle.std.specs.List.Sorted.{IsStrictlySortedBy}
use Rattle.host_trait.specs.World.{bytes_cmp, is_in_line}
use Rattle.etc_manifest.specs.Manifest.{places}
use Rattle.etc_clean.proofs.sorting.blocked_by.Given as goal

-- the items so far are looked at
abbrev pub invariant-loop-item : goal.invariant-loop-item
invariant-loop-item l = IsStrictlySortedBy bytes_cmp l.foreign → l.blocked ≡ filter (λ q. list_any (λ p. is_in_line p q) l.foreign) (places (take l.item-index l.items))
