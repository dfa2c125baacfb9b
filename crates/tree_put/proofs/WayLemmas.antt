-- What stands in the way of places, from one to the next.
use Rattle.std.proofs.Common.{◌≡◌, ◌&&◌, true, false, cond, List, [], ◌∷◌, None, Some, option_map, refl}
use Rattle.std.proofs.lemmas.Bool.{or_parts}
use Rattle.std.specs.List.{AllByRecursion, find}
use Rattle.host_trait.specs.World.{IsClear, Leaves}
use Rattle.tree_put.specs.declared.written_place.WrittenPlace.{WrittenPlace}
use Rattle.tree_put.specs.Put.{is_blocked}
use Rattle.tree_put.specs.WrittenPlace.{in_the_way, is_in_the_way, lacks_content}
use Rattle.tree_put.proofs.BlockedLemmas.{clear_of_free}

-- where nothing is in the way of some places, the first is clear, and nothing is in the way of the others
pub clear_first : (leaves : Leaves) (place : WrittenPlace) (places : List WrittenPlace) → in_the_way (place ∷ places) leaves ≡ None →
    IsClear leaves place.at × (in_the_way places leaves ≡ None)
clear_first leaves place places is =
    elim (is_in_the_way leaves place) as (λ b. is_in_the_way leaves place ≡ b → option_map (λ p. p.at) (cond b (Some place) (find (is_in_the_way leaves) places)) ≡ None → IsClear leaves place.at × (in_the_way places leaves ≡ None)) [
      | true ↦ λ here none. absurd (cc)
      | false ↦ λ here none. (clear_of_free leaves place.at (or_parts (is_blocked leaves place.at) (place.is_read && lacks_content leaves place.at) here).0, none)
    ] refl is

-- and where nothing is in the way of any, all are clear
pub all_clear : (leaves : Leaves) (places : List WrittenPlace) → in_the_way places leaves ≡ None → AllByRecursion (λ place. IsClear leaves place.at) places
all_clear leaves [] none = tt
all_clear leaves (place ∷ places) none = let first = clear_first leaves place places none in (first.0, all_clear leaves places first.1)
