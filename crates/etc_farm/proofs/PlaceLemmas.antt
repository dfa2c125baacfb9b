-- The places of a farm, and what could be in their way.
use Rattle.std.proofs.Common.{◌≡◌, ◌≢◌, ◌||◌, Bool, true, false, cond, List, [], ◌∷◌, None, Some, option_map, refl, ap, subst, ◌∙◌}
use Rattle.std.proofs.lemmas.Bool.{and_parts, both_ways, or_left, or_parts, or_right, and_from, or_from}
use Rattle.std.specs.List.{find}
use Rattle.switch_names.specs.Names.{Name}
use Rattle.host_trait.specs.World.{IsClear, Leaves, is_in_line, stage}
use Rattle.host_trait.proofs.Sound.{not_in_line}
use Rattle.tree_put.specs.declared.written_place.WrittenPlace.{WrittenPlace}
use Rattle.tree_put.specs.Put.{AreApart, is_blocked}
use Rattle.tree_put.specs.WrittenPlace.{AreApartFromStage, in_the_way, is_in_the_way, lacks_content}
use Rattle.tree_put.proofs.BlockedLemmas.{clear_of_free, free_of_clear}
use Rattle.switch_parts.specs.Leaves.{is_near}
use Rattle.switch_parts.proofs.LeafLemmas.{BeginApart, not_line}
use Rattle.etc_clean.specs.CleanList.{clean_name}
use Rattle.etc_clean.specs.Etc.{is_owned, static_name}
use Rattle.etc_clean.specs.Names.{is_in_etc, name_of, place}
use Rattle.etc_clean.proofs.NameLemmas.{in_etc, place_in_etc}
use Rattle.etc_clean.proofs.ListLemmas.{place_not_stage}
use Rattle.switch_parts.specs.Store.{is_in_store}
use Rattle.switch_parts.proofs.StoreLemmas.{stage_unstored}
use Rattle.etc_farm.specs.FarmPart.{fixed_places, owns_farm, reads_farm}

pub name_of_place : (q : Name) → name_of (place q) ≡ q
unfolding name_of place
name_of_place q = refl

-- the places of the names that are owned are
pub owned_place : (q : Name) → is_owned q ≡ true → owns_farm (place q) ≡ true
owned_place q own = and_from (is_in_etc (place q)) (is_owned (name_of (place q))) (place_in_etc q) (ap is_owned (name_of_place q) ∙ own)

pub place_of_owned : (path : Name) → owns_farm path ≡ true → (path ≡ place (name_of path)) × (is_owned (name_of path) ≡ true)
place_of_owned path own = let parts = and_parts (is_in_etc path) (is_owned (name_of path)) own in (in_etc path parts.0, parts.1)

pub owned_read : (path : Name) → owns_farm path ≡ true → reads_farm path ≡ true
owned_read path own = or_left (owns_farm path) (is_in_store path || is_near fixed_places path) own

pub store_read : (path : Name) → is_in_store path ≡ true → reads_farm path ≡ true
store_read path is = or_right (owns_farm path) (is_in_store path || is_near fixed_places path) (or_left (is_in_store path) (is_near fixed_places path) is)

pub near_read : (path : Name) → is_near fixed_places path ≡ true → reads_farm path ≡ true
near_read path is = or_right (owns_farm path) (is_in_store path || is_near fixed_places path) (or_right (is_in_store path) (is_near fixed_places path) is)

-- ---- the stage

pub stage_not_owned : owns_farm stage ≡ false
unfolding stage is_in_etc
stage_not_owned = refl

pub clean_stage : is_in_line stage (place clean_name) ≡ false
unfolding stage place clean_name
clean_stage = refl

pub static_stage : is_in_line stage (place static_name) ≡ false
unfolding stage place static_name
static_stage = refl

-- the stage is in line with none of the fixed places
pub fixed_apart : AreApartFromStage fixed_places
fixed_apart = (clean_stage, (static_stage, (not_in_line stage, tt)))

pub stage_unread : reads_farm stage ≡ false
stage_unread = none_of (owns_farm stage) (is_in_store stage) (is_in_line stage (place clean_name)) (is_in_line stage (place static_name)) (is_in_line stage stage)
    stage_not_owned stage_unstored clean_stage static_stage (not_in_line stage)
  where
    none_of : (a b c d e : Bool) → a ≡ false → b ≡ false → c ≡ false → d ≡ false → e ≡ false → (a || (b || (c || (d || (e || false))))) ≡ false
    none_of a b c d e p q r s t =
        ap (λ x. x || (b || (c || (d || (e || false))))) p ∙ ap (λ x. x || (c || (d || (e || false)))) q ∙ ap (λ x. x || (d || (e || false))) r ∙ ap (λ x. x || (e || false)) s ∙ ap (λ x. x || false) t

pub not_stage : (path : Name) → reads_farm path ≡ true → path ≢ stage
not_stage path read same = both_ways _ stage_unread (subst (λ p. reads_farm p ≡ true) same read)

begins_apart : (q : Name) → BeginApart (place q) stage
unfolding place stage
begins_apart q = record { first = refl; second = refl }

pub place_apart : (q : Name) → AreApart (place q) stage
place_apart q = record { other = place_not_stage q; line = not_line (place q) stage (begins_apart q) }

-- ---- what is in the way of the fixed places

-- no leaf is in the way, and the clean list has a content where it stands
pub record IsWayFree (leaves : Leaves) : Type 0 where
  pub clean : IsClear leaves (place clean_name)
  pub fixed_link : IsClear leaves (place static_name)
  pub stage : IsClear leaves stage
  pub content : lacks_content leaves (place clean_name) ≡ false

module _ (leaves : Leaves) (p : WrittenPlace) (ps : List WrittenPlace) where
  split_way : in_the_way (p ∷ ps) leaves ≡ None → (is_in_the_way leaves p ≡ false) × (in_the_way ps leaves ≡ None)
  split_way none = by (is_in_the_way leaves p) refl none
    where
      by : (b : Bool) → is_in_the_way leaves p ≡ b → option_map (λ (x : WrittenPlace). x.at) (cond b (Some p) (find (is_in_the_way leaves) ps)) ≡ None → (is_in_the_way leaves p ≡ false) × (in_the_way ps leaves ≡ None)
      by true is none = absurd (cc)
      by false is none = (is, none)

  join_way : is_in_the_way leaves p ≡ false → in_the_way ps leaves ≡ None → in_the_way (p ∷ ps) leaves ≡ None
  join_way is none = ap (λ b. option_map (λ (x : WrittenPlace). x.at) (cond b (Some p) (find (is_in_the_way leaves) ps))) is ∙ none

pub way_free : (leaves : Leaves) → in_the_way fixed_places leaves ≡ None → IsWayFree leaves
way_free leaves none =
    let first = split_way leaves (record { at = place clean_name; is_read = true }) (record { at = place static_name; is_read = false } ∷ record { at = stage; is_read = false } ∷ []) none in
    let second = split_way leaves (record { at = place static_name; is_read = false }) (record { at = stage; is_read = false } ∷ []) first.1 in
    let third = split_way leaves (record { at = stage; is_read = false }) [] second.1 in
    let list = or_parts (is_blocked leaves (place clean_name)) (lacks_content leaves (place clean_name)) first.0 in
    record {
      clean = clear_of_free leaves (place clean_name) list.0;
      fixed_link = clear_of_free leaves (place static_name) (or_parts (is_blocked leaves (place static_name)) false second.0).0;
      stage = clear_of_free leaves stage (or_parts (is_blocked leaves stage) false third.0).0;
      content = list.1;
    }

pub free_way : (leaves : Leaves) → IsWayFree leaves → in_the_way fixed_places leaves ≡ None
free_way leaves free =
    join_way leaves (record { at = place clean_name; is_read = true }) (record { at = place static_name; is_read = false } ∷ record { at = stage; is_read = false } ∷ [])
    (or_from (is_blocked leaves (place clean_name)) (lacks_content leaves (place clean_name)) (free_of_clear leaves (place clean_name) free.clean) free.content)
    (join_way leaves (record { at = place static_name; is_read = false }) (record { at = stage; is_read = false } ∷ [])
    (or_from (is_blocked leaves (place static_name)) false (free_of_clear leaves (place static_name) free.fixed_link) refl)
    (join_way leaves (record { at = stage; is_read = false }) [] (or_from (is_blocked leaves stage) false (free_of_clear leaves stage free.stage) refl) refl))

pub near_clean : (q : Name) → is_in_line q (place clean_name) ≡ true → is_near fixed_places q ≡ true
near_clean q line = or_left (is_in_line q (place clean_name)) (is_in_line q (place static_name) || (is_in_line q stage || false)) line

pub near_static : (q : Name) → is_in_line q (place static_name) ≡ true → is_near fixed_places q ≡ true
near_static q line = or_right (is_in_line q (place clean_name)) (is_in_line q (place static_name) || (is_in_line q stage || false)) (or_left (is_in_line q (place static_name)) (is_in_line q stage || false) line)

pub near_stage : (q : Name) → is_in_line q stage ≡ true → is_near fixed_places q ≡ true
near_stage q line =
    or_right (is_in_line q (place clean_name)) (is_in_line q (place static_name) || (is_in_line q stage || false))
    (or_right (is_in_line q (place static_name)) (is_in_line q stage || false) (or_left (is_in_line q stage) false line))
