-- Where a collection isn't refused, none is at a moment of it.
use Rattle.std.proofs.Common.{◌≡◌, ◌≢◌, ℕ, ◌||◌, ◌&&◌, Bool, true, false, cond, codes, List, [], ◌∷◌, ◌++◌, map, take, Option, None, Some, is_some, refl, sym, ap, subst, ◌∙◌, inl, inr}
use Rattle.std.proofs.lemmas.Bool.{both_ways, or_from, or_parts}
use Rattle.std.specs.Cmp.Lexicographic.{nat_list_eq_equiv}
use Rattle.std.specs.FinMap.{get}
use Rattle.std.specs.List.{AllByRecursion}
use Rattle.generations.specs.declared.gens.Gen.{Gen}
use Rattle.generations.specs.declared.gens.Gens.{Gens}
use Rattle.generations.specs.Goal.{goal_place}
use Rattle.host_trait.specs.World.{WorldState, is_in_line, is_path, seen, stage}
use Rattle.host_trait.proofs.Fronts.{begins}
use Rattle.host_trait.proofs.Seen.{clear_seen}
use Rattle.host_trait.proofs.Sound.{not_in_line}
use Rattle.owed_lists.specs.Lists.{place_of}
use Rattle.owed_log.specs.Places.{log_place}
use Rattle.leaf_limits.specs.Limits.{long_past}
use Rattle.leaf_limits.proofs.PastLemmas.{past_first}
use Rattle.switch_names.specs.Names.{Name, has}
use Rattle.switch_names.specs.SystemName.{store_folder}
use Rattle.switch_parts.specs.declared.refusal.What.TheVariants.{LeafBytes}
use Rattle.switch_parts.specs.Limits.{too_many}
use Rattle.switch_parts.specs.Part.{IsFree}
use Rattle.tree_put.specs.declared.written_place.WrittenPlace.{WrittenPlace}
use Rattle.tree_put.specs.First.{first_in_the_way, lesser}
use Rattle.tree_put.specs.Put.{is_blocked}
use Rattle.tree_put.specs.Sequence.{without_places}
use Rattle.tree_put.specs.WrittenPlace.{AreApartFromStage, is_in_the_way, lacks_content, written}
use Rattle.tree_put.proofs.BlockedLemmas.{clear_of_free, free_of_clear}
use Rattle.tree_put.proofs.FirstLemmas.{none_as_listed}
use Rattle.tree_put.proofs.SequenceLemmas.{removed_clear}
use Rattle.boot_entries.specs.BootPart.{boot_part, boot_places, entry_places}
use Rattle.boot_entries.specs.Laws.{IsBootGens}
use Rattle.boot_entries.specs.Places.{entry_path, loader_path, numbered, owns_boot}
use Rattle.boot_entries.specs.Sources.{menu_too_long, taken_of}
use Rattle.boot_entries.specs.Steps.{AreEntries, IsBootMoment, with_menu}
use Rattle.boot_entries.proofs.MenuPlacesLemmas.{menu_apart}
use Rattle.boot_entries.proofs.NumberLemmas.{bears_numbered}
use Rattle.boot_entries.proofs.PartLemmas.{moment_law, part_law}
use Rattle.store_collect.specs.declared.collection.Collection.{Collection}
use Rattle.store_collect.specs.Again.{AllowedLaw, IsAllowed}
use Rattle.store_collect.specs.Collection.{IsCollectionOf, IsRefusedAt}
use Rattle.store_collect.specs.Kept.{gens_kept}
use Rattle.store_collect.specs.Steps.{IsCollecting, removals}
use Rattle.store_collect.specs.Unfinished.{stands_at_one, unfinished_places}
use Rattle.store_collect.proofs.AgainGens.{kept_now}
use Rattle.store_collect.proofs.BootSystemLemmas.{outside}
use Rattle.store_collect.proofs.EntryLemmas.{are_entries, kept_gens}
use Rattle.store_collect.proofs.LawLemmas.{menu_made}
use Rattle.store_collect.proofs.LongLemmas.{long_before}

-- ---- where an unfinished switch has its records

-- a place is none of the boot menu's, nor in the store, nor the stage
record IsBeside (p : Name) : Type 0 where
  free : owns_boot p ≡ false
  other : p ≢ stage
  away : begins store_folder p ≡ false

-- what lies below this folder is such
run_beside : (rest : Name) → is_path (codes "run/nixos/" ++ rest) loader_path ≡ false → IsBeside (codes "run/nixos/" ++ rest)
unfolding entry_path stage
run_beside rest apart = record {
  free = ap (λ b. b || is_some (numbered (codes "run/nixos/" ++ rest))) apart ∙ ap is_some (sym (bears_numbered (codes "run/nixos/" ++ rest) None (λ n small same.
      both_ways (is_path (codes "run/nixos/" ++ rest) (entry_path n)) refl (subst (λ x. is_path (codes "run/nixos/" ++ rest) x ≡ true) same (nat_list_eq_equiv.refl (codes "run/nixos/" ++ rest))))));
  other = λ same. both_ways (is_path (codes "run/nixos/" ++ rest) stage) refl (subst (λ x. is_path (codes "run/nixos/" ++ rest) x ≡ true) same (nat_list_eq_equiv.refl (codes "run/nixos/" ++ rest)));
  away = refl;
}

all_beside : AllByRecursion IsBeside unfinished_places
unfolding log_place place_of goal_place loader_path
all_beside = (
  run_beside (codes "owed-log") refl,
  (run_beside (codes "start-list") refl, (run_beside (codes "restart-list") refl, (run_beside (codes "reload-list") refl, (run_beside (codes "rollback-goal") refl, tt)))),
)

-- ---- what is in the way of places

-- a place that is written unread, and of which the stage is neither above nor below
abbrev IsPlain : WrittenPlace → Type 0
IsPlain place = (place.is_read ≡ false) × (is_in_line stage place.at ≡ false)

plain : (list : List Gen) → AllByRecursion IsPlain (boot_places list)
plain list = by (entry_places list) (menu_apart list)
  where
    by : (names : List Name) → AreApartFromStage (map (written false) names ++ written false loader_path ∷ []) → AllByRecursion IsPlain (map (written false) names ++ written false loader_path ∷ written false stage ∷ [])
    by [] apart = ((refl, apart.0), ((refl, not_in_line stage), tt))
    by (name ∷ names) apart = ((refl, apart.0), by names apart.1)

-- removals put nothing in the way
module _ (gone : List Name) (u m : WorldState) (now : seen m ≡ seen (without_places gone u)) where
  first_still : (places : List WrittenPlace) → AllByRecursion IsPlain places → first_in_the_way places u.leaves ≡ None → first_in_the_way places m.leaves ≡ None
  first_still [] plain none = refl
  first_still (place ∷ places) plain none = by (is_in_the_way u.leaves place) refl none (first_still places plain.1)
    where
      by : (b : Bool) → is_in_the_way u.leaves place ≡ b → cond b (Some (lesser place.at (first_in_the_way places u.leaves))) (first_in_the_way places u.leaves) ≡ None →
          (first_in_the_way places u.leaves ≡ None → first_in_the_way places m.leaves ≡ None) → first_in_the_way (place ∷ places) m.leaves ≡ None
      by true is none rest = absurd cc
      by false is none rest =
          let before = clear_of_free u.leaves place.at (or_parts (is_blocked u.leaves place.at) (place.is_read && lacks_content u.leaves place.at) is).0 in
          let clear = clear_seen m (without_places gone u) place.at plain.0.1 now (removed_clear gone u place.at before) in
          let free : is_in_the_way m.leaves place ≡ false = or_from (is_blocked m.leaves place.at) (place.is_read && lacks_content m.leaves place.at) (free_of_clear m.leaves place.at clear)
          (ap (λ b. b && lacks_content m.leaves place.at) plain.0.0) in
          ap (λ b. cond b (Some (lesser place.at (first_in_the_way places m.leaves))) (first_in_the_way places m.leaves)) free ∙ rest none

-- ---- at a moment

module _ (keep : ℕ) (one : Collection) (w m : WorldState) (is : IsCollectionOf keep w one) (moment : IsCollecting one w m) where
  entries : AreEntries one.texts.entries
  entries = are_entries keep w one is

  finished : (places : List Name) → AllByRecursion IsBeside places → stands_at_one places w.leaves ≡ false → stands_at_one places m.leaves ≡ false
  finished [] beside none = refl
  finished (p ∷ places) beside none =
      let parts = or_parts (is_some (get w.leaves p)) (stands_at_one places w.leaves) none in
      let first : is_some (get m.leaves p) ≡ false = elim (outside keep one w m entries is moment p beside.0.free beside.0.other beside.0.away) [
        | inl same ↦ ap is_some same ∙ parts.0
        | inr both ↦ ap is_some both.1
      ] in
      or_from (is_some (get m.leaves p)) (stands_at_one places m.leaves) first (finished places beside.1 parts.1)

  module _ (allowed : IsAllowed keep w.leaves) where
    abbrev kept : Gens
    kept = gens_kept keep is.gens

    kept_are : IsBootGens kept
    kept_are = kept_gens keep w.leaves is.gens is.stand

    none_before : (first : Option Name) → first_in_the_way (boot_places kept.list) w.leaves ≡ first → first_in_the_way (boot_places kept.list) w.leaves ≡ None
    none_before None none = none
    none_before (Some at) some = absurd (allowed.free at record { gens = is.gens; stand = is.stand; first = some })

    none_past : (past : Option ℕ) → long_past (has (taken_of kept)) w.leaves ≡ past → long_past (has (taken_of kept)) w.leaves ≡ None
    none_past None told = told
    none_past (Some count) told =
        let first = past_first (taken_of kept) w.leaves count told in
        absurd (allowed.short count record { gens = is.gens; stand = is.stand; long = first.0; first = first.1; is_count = sym first.2 })

    none_too_long : menu_too_long kept w.leaves ≡ None
    none_too_long = ap (too_many LeafBytes) (none_past (long_past (has (taken_of kept)) w.leaves) refl)

    free_before : IsFree (boot_part kept) w.leaves
    free_before = record { way = (none_as_listed (boot_places kept.list) w.leaves).0 (none_before (first_in_the_way (boot_places kept.list) w.leaves) refl); refusal = none_too_long; short = refl }

    menu_free : (v : WorldState) → IsBootMoment one.texts w v → first_in_the_way (boot_places kept.list) v.leaves ≡ None
    menu_free v boot =
        (none_as_listed (boot_places kept.list) v.leaves).1
        ((part_law kept kept_are).stays_free w v (moment_law kept one.texts w v kept_are entries is.planned.texts boot).keeps free_before).way

    free_now : first_in_the_way (boot_places kept.list) m.leaves ≡ None
    free_now = by moment
      where
        by : IsCollecting one w m → first_in_the_way (boot_places kept.list) m.leaves ≡ None
        by (IsCollecting.Listing boot) = menu_free m boot
        by (IsCollecting.Dropping drop) = first_still (take drop.count (removals one)) (with_menu one.texts w) m drop.world (boot_places kept.list) (plain kept.list) (menu_free (with_menu one.texts w) (menu_made one.texts w))

    not_refused : (at : Name) → IsRefusedAt keep m.leaves at → ⊥
    not_refused at refused = absurd (
        let no : None ≡ Some at = sym free_now ∙ ap (λ (gens : Gens). first_in_the_way (boot_places gens.list) m.leaves) (sym (kept_now keep one w m is moment refused.gens refused.stand)) ∙ refused.first in cc)

pub allowed_law : AllowedLaw
allowed_law keep collection w m is allowed moment = record {
  finished = finished keep collection w m is moment unfinished_places all_beside allowed.finished;
  short = λ count long. allowed.short count (long_before keep collection w m is moment count long);
  free = λ at refused. not_refused keep collection w m is moment allowed at refused;
}
