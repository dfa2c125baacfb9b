-- Nothing gets in the way of a switch of the units.
use Rattle.std.proofs.Common.{◌≡◌, ◌⊎◌, ◌&&◌, ◌||◌, ◌∷◌, ℕ, Bool, true, false, cond, List, [], length, map, Option, None, Some, is_none, is_some, option_map, option_and_then, refl, ap, ◌∙◌, inl, inr}
use Rattle.std.proofs.lemmas.Bool.{or_parts}
use Rattle.std.specs.FinMap.{get}
use Rattle.std.specs.List.{AllByRecursion, find}
use Rattle.host_trait.specs.declared.leaf.LeafKind.{LeafKind}
use Rattle.host_trait.specs.declared.leaf.LeafKind.TheVariants.{File, Link}
use Rattle.host_trait.specs.World.{Leaves, WorldState, file_bytes, is_in_line, leaf_content, stage}
use Rattle.log_text.specs.declared.lists.Which.{Which}
use Rattle.log_text.specs.Lists.{record_order}
use Rattle.owed_lists.specs.Lists.{place_of}
use Rattle.owed_log.specs.Places.{log_place}
use Rattle.leaf_limits.specs.Counts.{past, units_max}
use Rattle.generations.specs.Places.{target_of}
use Rattle.owed_plan.specs.Store.{IsOldInStore}
use Rattle.owed_plan.proofs.StoreLemmas.{first_fault_same, leaf_same, names_same}
use Rattle.switch_names.specs.Names.{Name}
use Rattle.switch_names.proofs.Outcomes.{none_mapped, option_or_nothing, option_or_parts}
use Rattle.switch_parts.specs.declared.refusal.Refusal.TheVariants.{TooMany}
use Rattle.switch_parts.specs.declared.refusal.What.TheVariants.{Units}
use Rattle.switch_parts.specs.Limits.{too_many}
use Rattle.tree_put.specs.declared.written_place.WrittenPlace.{WrittenPlace}
use Rattle.tree_put.specs.Put.{is_blocked}
use Rattle.tree_put.specs.WrittenPlace.{is_in_the_way, lacks_content, written}
use Rattle.host_trait.proofs.KeyTests.{all_fail, none_passes}
use Rattle.unit_stage.specs.Laws.{AreSameBeside}
use Rattle.unit_stage.specs.Owned.{unit_places}
use Rattle.unit_defs.specs.Count.{units_past}
use Rattle.unit_defs.specs.Units.{first_fault_of}
use Rattle.unit_stage.specs.System.{IsSystem, current_place, current_system, defs_refusal, old_units_past, system_leaf, text_refusal, unit_refusal, units_too_long, units_too_many}
use Rattle.unit_stage.specs.Units.{AreUnitsFree}
use Rattle.unit_stage.proofs.OwnedLemmas.{IsWritten, current_written, list_written, log_written, same_line, same_store, stage_written}
use Rattle.unit_stage.proofs.ListsLemmas.{AreListLeaves, IsListLeaf}
use Rattle.unit_stage.proofs.CountLemmas.{refusal_by}
use Rattle.unit_stage.proofs.LengthLemmas.{still_short}
use Rattle.unit_stage.proofs.SystemsLemmas.{current_inside}

-- a test that fails at each place finds none, and the other way round
none_found : (test : WrittenPlace → Bool) (places : List WrittenPlace) → AllByRecursion (λ place. test place ≡ false) places → find test places ≡ None
none_found test [] all = refl
none_found test (place ∷ places) all = ap (λ b. cond b (Some place) (find test places)) all.0 ∙ none_found test places all.1

all_free : (test : WrittenPlace → Bool) (places : List WrittenPlace) → find test places ≡ None → AllByRecursion (λ place. test place ≡ false) places
all_free test [] none = tt
all_free test (place ∷ places) none =
    elim (test place) as (λ b. test place ≡ b → cond b (Some place) (find test places) ≡ None → (test place ≡ false) × AllByRecursion (λ place. test place ≡ false) places) [
      | true ↦ λ is found. absurd cc
      | false ↦ λ is found. (is, all_free test places found)
    ] refl none

-- a file has content
file_has : (leaves : Leaves) (o : Option LeafKind) → is_some (file_bytes o) ≡ true → (is_some o && is_none (leaf_content leaves o)) ≡ false
file_has leaves None is = absurd cc
file_has leaves (Some (File bytes mode uid gid)) is = refl
file_has leaves (Some (Link target)) is = absurd cc

module _ (system : Name) (w m : WorldState) (same : AreSameBeside w m) where
  unblocked : (at : Name) → IsWritten at → is_blocked w.leaves at ≡ false → is_blocked m.leaves at ≡ false
  unblocked at is none =
      all_fail (λ q. is_in_line q at) m.leaves (λ q line. same_line at is w m same q line ∙ none_passes (λ q. is_in_line q at) w.leaves none q line)

  -- a place that isn't read is free as it was
  place_free : (at : Name) → IsWritten at → is_in_the_way w.leaves (written false at) ≡ false → is_in_the_way m.leaves (written false at) ≡ false
  place_free at is free = ap (λ b. b || false) (unblocked at is (or_parts (is_blocked w.leaves at) false free).0)

  -- what stands at a list's place has content, as it had
  lists_have : (at : Name) → IsListLeaf w.leaves at (get m.leaves at) → lacks_content w.leaves at ≡ false → lacks_content m.leaves at ≡ false
  lists_have at (IsListLeaf.Old is) had =
      ap (λ (o : Option LeafKind). is_some o && is_none (leaf_content m.leaves o)) is
      ∙ ap (λ (content : Option (List ℕ)). is_some (get w.leaves at) && is_none content) (leaf_same m.leaves w.leaves (same_store w m same) (get w.leaves at))
      ∙ had
  lists_have at (IsListLeaf.Gone is) had = ap (λ (o : Option LeafKind). is_some o && is_none (leaf_content m.leaves o)) is
  lists_have at (IsListLeaf.Written is) had = file_has m.leaves (get m.leaves at) is

  -- a place that is read is free as it was
  list_free : (at : Name) → IsWritten at → IsListLeaf w.leaves at (get m.leaves at) → is_in_the_way w.leaves (written true at) ≡ false → is_in_the_way m.leaves (written true at) ≡ false
  list_free at is leaf free =
      let parts = or_parts (is_blocked w.leaves at) (lacks_content w.leaves at) free in
      ap (λ b. b || lacks_content m.leaves at) (unblocked at is parts.0) ∙ lists_have at leaf parts.1

  -- ---- how many units the systems have

  -- the link names the system of before, or the one that comes into use
  abbrev IsLinked : Type 0
  IsLinked = (get m.leaves current_place ≡ get w.leaves current_place) ⊎ (get m.leaves current_place ≡ Some (system_leaf system))

  same_past : IsSystem system → units_past m.leaves system ≡ units_past w.leaves system
  same_past is_system = ap (λ names. past units_max (length names)) (names_same m.leaves w.leaves (same_store w m same) system is_system.inside)

  same_old : (old : Option Name) → IsOldInStore old → option_and_then (units_past m.leaves) old ≡ option_and_then (units_past w.leaves) old
  same_old None inside = refl
  same_old (Some old) inside = ap (λ names. past units_max (length names)) (names_same m.leaves w.leaves (same_store w m same) old inside)

  -- the system in use has as few units as the two that may be in use
  still_few : IsSystem system → IsLinked → units_past w.leaves system ≡ None → old_units_past w.leaves ≡ None → old_units_past m.leaves ≡ None
  still_few is_system (inl before) new old =
      ap (λ (leaf : Option LeafKind). option_and_then (units_past m.leaves) (option_and_then target_of leaf)) before
      ∙ same_old (current_system w.leaves) (current_inside w.leaves) ∙ old
  still_few is_system (inr after) new old =
      ap (λ (leaf : Option LeafKind). option_and_then (units_past m.leaves) (option_and_then target_of leaf)) after
      ∙ ap (option_and_then (units_past m.leaves)) is_system.named ∙ same_past is_system ∙ new

  -- ---- what is free

  module _ (are : AreListLeaves w.leaves m.leaves) where
    lists_free : (order : List Which) → AllByRecursion (λ place. is_in_the_way w.leaves place ≡ false) (map (written true) (map place_of order)) → AllByRecursion (λ place. is_in_the_way m.leaves place ≡ false) (map (written true) (map place_of order))
    lists_free [] was = tt
    lists_free (which ∷ order) was = (list_free (place_of which) (list_written which) (are.old which) was.0, lists_free order was.1)

    way_free : find (is_in_the_way w.leaves) unit_places ≡ None → find (is_in_the_way m.leaves) unit_places ≡ None
    way_free none =
        let was = all_free (is_in_the_way w.leaves) unit_places none in
        none_found (is_in_the_way m.leaves) unit_places (
          place_free stage stage_written was.0,
          (
            place_free current_place current_written was.1.0,
            (
              list_free log_place log_written are.log was.1.1.0,
              lists_free record_order was.1.1.1,
            ),
          ),
        )

    module _ (is_system : IsSystem system) (linked : IsLinked) where
      -- nothing is too much or faulty that wasn't
      still_defined : defs_refusal w.leaves system ≡ None → defs_refusal m.leaves system ≡ None
      still_defined none =
          let parts = option_or_parts (units_too_many w.leaves system) (text_refusal w.leaves system) none in
          let counts = option_or_parts (too_many Units (units_past w.leaves system)) (too_many Units (old_units_past w.leaves)) parts.0 in
          let new = none_mapped (TooMany Units) (units_past w.leaves system) counts.0 in
          let old = none_mapped (TooMany Units) (old_units_past w.leaves) counts.1 in
          refusal_by m.leaves system None None (first_fault_of w.leaves system) (same_past is_system ∙ new) (still_few is_system linked new old)
          (first_fault_same m.leaves w.leaves (same_store w m same) system is_system.inside) ∙ parts.1

      still_linked : (current_system m.leaves ≡ current_system w.leaves) ⊎ (current_system m.leaves ≡ Some system)
      still_linked = elim linked [
        | inl before ↦ inl (ap (option_and_then target_of) before)
        | inr after ↦ inr (ap (option_and_then target_of) after ∙ is_system.named)
      ]

      -- nor is a content too long that wasn't
      still_read : unit_refusal w.leaves system ≡ None → unit_refusal m.leaves system ≡ None
      still_read none =
          let parts = option_or_parts (defs_refusal w.leaves system) (units_too_long w.leaves system) none in
          option_or_nothing (defs_refusal m.leaves system) (units_too_long m.leaves system) (still_defined parts.0)
          (still_short m.leaves w.leaves (same_store w m same) system is_system.inside (current_inside w.leaves) still_linked parts.1)

      -- nothing is in the way of the units' places that wasn't, and the units can be read as before
      pub stays_free : AreUnitsFree system w.leaves → AreUnitsFree system m.leaves
      stays_free free = record {
        way = ap (option_map (λ (place : WrittenPlace). place.at)) (way_free (none_mapped _ _ free.way));
        refusal = still_read free.refusal;
      }
