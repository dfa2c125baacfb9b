-- What stands in the way of places that are told in any order: path_resolution(7).
use Rattle.std.specs.Prelude.{◌≡◌, ◌⊎◌, ◌↔◌, Bool, false, List, [], ◌∷◌, Option, None, Some, if◌then◌else◌}
use Rattle.std.specs.Ordering.{is_lt}
use Rattle.host_trait.specs.World.{Leaves, bytes_cmp}
use Rattle.switch_names.specs.Names.{Name}
use Rattle.tree_put.specs.declared.written_place.WrittenPlace.{WrittenPlace}
use Rattle.tree_put.specs.WrittenPlace.{is_in_the_way}

-- a name stands before another in byte order
abbrev pub is_less : Name → Name → Bool
is_less one other = is_lt (bytes_cmp one other)

-- the lesser of a name and of another, where there is one
abbrev pub lesser : Name → Option Name → Name
lesser name None = name
lesser name (Some other) = if is_less other name then other else name

-- the first of these places in byte order that a leaf stands in the way of
abbrev pub first_in_the_way : List WrittenPlace → Leaves → Option Name
first_in_the_way [] leaves = None
first_in_the_way (place ∷ places) leaves = if is_in_the_way leaves place then Some (lesser place.at (first_in_the_way places leaves)) else first_in_the_way places leaves

-- a place is one of these
abbrev pub IsAmong : WrittenPlace → List WrittenPlace → Type 0
IsAmong place [] = ⊥
IsAmong place (other ∷ places) = (place ≡ other) ⊎ IsAmong place places

-- the same places are told, in whatever order and however often
abbrev pub AreSamePlaces : List WrittenPlace → List WrittenPlace → Type 0
AreSamePlaces one other = (place : WrittenPlace) → IsAmong place one ↔ IsAmong place other

-- no place stands before an earlier one in byte order
abbrev pub AreSorted : List WrittenPlace → Type 0
AreSorted [] = Unit {0}
AreSorted (place ∷ places) = ((other : WrittenPlace) → IsAmong other places → is_less other.at place.at ≡ false) × AreSorted places
