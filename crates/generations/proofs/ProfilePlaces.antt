-- Where nothing is in the way of the places that a set writes, it can be made.
use Rattle.std.proofs.Common.{◌≡◌, ◌&&◌, ◌||◌, Bool, true, false, cond, not, List, [], ◌∷◌, ◌++◌, None, Some, option_map, refl, sym, ap, subst, ◌∙◌}
use Rattle.std.proofs.lemmas.Option.{none-some}
use Rattle.std.specs.List.{find}
use Rattle.host_trait.specs.World.{IsClear, Leaves, WorldState, stage}
use Rattle.switch_names.specs.Names.{Name}
use Rattle.switch_parts.specs.declared.refusal.Refusal.TheVariants.{GenerationsFull}
use Rattle.switch_parts.specs.Part.{IsFree}
use Rattle.tree_put.proofs.BlockedLemmas.{free_of_clear}
use Rattle.tree_put.proofs.WayLemmas.{clear_first}
use Rattle.tree_put.specs.declared.written_place.WrittenPlace.{WrittenPlace}
use Rattle.tree_put.specs.WrittenPlace.{in_the_way, is_in_the_way, written}
use Rattle.generations.specs.Places.{link_path, number_after, profile}
use Rattle.generations.specs.ProfilePart.{has_number, is_kept, new_link, profile_part, profile_places}
use Rattle.generations.specs.Set.{CanSet}

-- the stage stands last
abbrev last_place : List WrittenPlace
last_place = written false stage ∷ []

way_after : (leaves : Leaves) (places more : List WrittenPlace) → in_the_way (places ++ more) leaves ≡ None → in_the_way more leaves ≡ None
way_after leaves [] more is = is
way_after leaves (place ∷ places) more is = way_after leaves places more (clear_first leaves place (places ++ more) is).1

-- the link that a set makes
link_made : (leaves : Leaves) (system : Name) → is_kept leaves system ≡ false → has_number leaves system ≡ true → new_link leaves system ≡ written false (link_path (number_after leaves system)) ∷ []
link_made leaves system other further =
    ap (λ b. cond (not b && has_number leaves system) (written false (link_path (number_after leaves system)) ∷ []) []) other
    ∙ ap (λ b. cond b (written false (link_path (number_after leaves system)) ∷ []) []) further

-- where nothing is in the way, and a number is left, a set can be made
pub can_set : (system : Name) (w : WorldState) → in_the_way (profile_places w.leaves system) w.leaves ≡ None → has_number w.leaves system ≡ true → CanSet system w
can_set system w free further =
    let first = clear_first w.leaves (written false profile) (new_link w.leaves system ++ last_place) free in
    record {
      stage = (clear_first w.leaves (written false stage) [] (way_after w.leaves (new_link w.leaves system) last_place first.1)).0;
      profile = first.0;
      link = λ other. (clear_first w.leaves (written false (link_path (number_after w.leaves system))) last_place
          (subst (λ l. in_the_way (l ++ last_place) w.leaves ≡ None) (link_made w.leaves system other further) first.1)).0;
    }

-- nothing is in the way of a clear place, nor of those after it
pub free_first : (leaves : Leaves) (at : Name) (places : List WrittenPlace) → IsClear leaves at → in_the_way places leaves ≡ None → in_the_way (written false at ∷ places) leaves ≡ None
free_first leaves at places clear rest =
    ap (λ b. option_map (λ (place : WrittenPlace). place.at) (cond (b || false) (Some (written false at)) (find (is_in_the_way leaves) places))) (free_of_clear leaves at clear) ∙ rest

-- where a set can be made, nothing is in its way
pub free_of_can : (system : Name) (w : WorldState) → CanSet system w → in_the_way (profile_places w.leaves system) w.leaves ≡ None
free_of_can system w can = free_first w.leaves profile (new_link w.leaves system ++ last_place) can.profile (links (is_kept w.leaves system) (has_number w.leaves system) refl)
  where
    last_free : in_the_way last_place w.leaves ≡ None
    last_free = free_first w.leaves stage [] can.stage refl

    links : (kept further : Bool) → is_kept w.leaves system ≡ kept →
        in_the_way (cond (not kept && further) (written false (link_path (number_after w.leaves system)) ∷ []) [] ++ last_place) w.leaves ≡ None
    links true further is = last_free
    links false true is = free_first w.leaves (link_path (number_after w.leaves system)) last_place (can.link is) last_free
    links false false is = last_free

-- a set that isn't refused finds a number
pub number_of_free : (system : Name) (leaves : Leaves) → IsFree (profile_part system) leaves → has_number leaves system ≡ true
number_of_free system leaves free = further (has_number leaves system) free.refusal
  where
    further : (b : Bool) → cond b None (Some GenerationsFull) ≡ None → b ≡ true
    further true none = refl
    further false none = absurd (none-some GenerationsFull (sym none))

pub can_of_free : (system : Name) (w : WorldState) → IsFree (profile_part system) w.leaves → CanSet system w
can_of_free system w free = can_set system w free.way (number_of_free system w.leaves free)

pub free_of : (system : Name) (w : WorldState) → CanSet system w → has_number w.leaves system ≡ true → IsFree (profile_part system) w.leaves
free_of system w can further = record {
  way = free_of_can system w can;
  refusal = ap (λ b. cond b None (Some GenerationsFull)) further;
  short = refl;
}
