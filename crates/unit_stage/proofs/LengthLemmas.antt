-- Contents that are too long, and what is refused for them.
use Rattle.std.proofs.Common.{◌≡◌, ◌⊎◌, ◌||◌, ◌++◌, Bool, true, ℕ, List, nat_lt, length, [], Option, None, Some, option_map, unwrap_or, sym, ap, ◌∙◌, inl, inr}
use Rattle.std.proofs.lemmas.Bool.{or_cases, or_left, or_right}
use Rattle.std.proofs.lemmas.List.Folds.{list_any-append}
use Rattle.host_trait.specs.World.{Leaves}
use Rattle.leaf_limits.proofs.PastLemmas as past
use Rattle.leaf_limits.specs.Limits.{AreTaken, is_long, leaf_max, long_past}
use Rattle.owed_plan.specs.Store.{AreSameInStore, IsInStore, IsOldInStore}
use Rattle.owed_plan.proofs.StoreLemmas.{content_same, files_same}
use Rattle.switch_names.specs.Names.{Name, has, is_name}
use Rattle.switch_names.proofs.Outcomes.{none_mapped, option_or_parts}
use Rattle.switch_parts.specs.declared.refusal.Refusal.TheVariants.{TooMany}
use Rattle.switch_parts.specs.declared.refusal.What.TheVariants.{LeafBytes}
use Rattle.switch_parts.specs.Limits.{too_many}
use Rattle.switch_parts.proofs.StoreLemmas.{store_below}
use Rattle.unit_defs.specs.declared.part.FilePart.{FilePart}
use Rattle.unit_defs.specs.Taken.{AreShort, NotesLong, takes_units}
use Rattle.unit_defs.proofs.NotingLemmas.{both_noted}
use Rattle.unit_defs.proofs.TakenLemmas.{taken_below, taken_by_files}
use Rattle.unit_stage.specs.System.{current_system, defs_refusal, takes_old, takes_switched, units_too_long}
use Rattle.unit_stage.specs.Units.{units_part}

-- where no content is too long, none is refused for it
pub none_long : (leaves : Leaves) (system : Name) → AreShort (takes_switched leaves system) leaves → units_too_long leaves system ≡ None
none_long leaves system short = ap (too_many LeafBytes) (past.nothing_past (takes_switched leaves system) leaves short)

pub not_long : (leaves : Leaves) (system : Name) → units_too_long leaves system ≡ None → AreShort (takes_switched leaves system) leaves
not_long leaves system none =
    past.none_long (takes_switched leaves system) leaves (none_mapped (TooMany LeafBytes) (long_past (takes_switched leaves system) leaves) none)

-- a part that isn't refused takes no content that is too long
pub part_not_long : (start_up : Bool) (system : Name) (leaves : Leaves) → (units_part start_up system).refusal leaves ≡ None → units_too_long leaves system ≡ None
part_not_long start_up system leaves none = (option_or_parts (defs_refusal leaves system) (units_too_long leaves system) none).1

-- what is taken of one system and of another is what is taken of both
pub both_taken :
    (leaves : Leaves) (system : Name) (places in_use all : List Name) → all ≡ places ++ in_use → AreTaken places (takes_units leaves system) leaves →
    AreTaken in_use (takes_old leaves (current_system leaves)) leaves → AreTaken all (takes_switched leaves system) leaves
both_taken leaves system places in_use all are new old q there =
    ap (λ (names : List Name). has names q) are ∙ list_any-append (is_name q) places in_use ∙ (λ i. new q there i || old q there i)

-- what is noted of the system in use and then of the one that comes into use
pub switched_noted :
    (leaves : Leaves) (system : Name) (old middle new : Bool) → NotesLong old middle (takes_old leaves (current_system leaves)) leaves →
    NotesLong middle new (takes_units leaves system) leaves → NotesLong old new (takes_switched leaves system) leaves
switched_noted leaves system old middle new =
    both_noted leaves (takes_old leaves (current_system leaves)) (takes_units leaves system) (takes_switched leaves system) old middle new
    (λ q taken. elim (or_cases (takes_units leaves system q) (takes_old leaves (current_system leaves) q) taken) [
      | inl new ↦ or_right (takes_old leaves (current_system leaves) q) (takes_units leaves system q) new
      | inr old ↦ or_left (takes_old leaves (current_system leaves) q) (takes_units leaves system q) old
    ])

-- ---- trees with the same in the store

module _ (leaves other : Leaves) (same : AreSameInStore leaves other) where
  new_taken : (system : Name) → IsInStore system → (q : Name) → takes_units leaves system q ≡ true → (takes_units other system q ≡ true) × IsInStore q
  new_taken system inside q taken = (
    sym (taken_by_files leaves other system (λ unit. ap (option_map (λ (part : FilePart). part.text)) (files_same leaves other same system inside unit)) q) ∙ taken,
    store_below q system (taken_below leaves system q taken) inside,
  )

  old_taken : (old : Option Name) → IsOldInStore old → (q : Name) → takes_old leaves old q ≡ true → (takes_old other old q ≡ true) × IsInStore q
  old_taken None inside q taken = absurd cc
  old_taken (Some system) inside q taken = new_taken system inside q taken

  same_long : (q : Name) → IsInStore q → is_long leaves q ≡ is_long other q
  same_long q inside = ap (λ (o : Option (List ℕ)). nat_lt leaf_max (length (unwrap_or o []))) (content_same leaves other same q inside)

  module _ (system : Name) (inside : IsInStore system) (old_inside : IsOldInStore (current_system other))
      (linked : (current_system leaves ≡ current_system other) ⊎ (current_system leaves ≡ Some system)) where
    in_use_taken : (q : Name) → takes_old leaves (current_system leaves) q ≡ true → (takes_switched other system q ≡ true) × IsInStore q
    in_use_taken q taken = elim linked [
      | inl before ↦
          let was = old_taken (current_system other) old_inside q (sym (ap (λ old. takes_old leaves old q) before) ∙ taken) in
          (or_right (takes_units other system q) (takes_old other (current_system other) q) was.0, was.1)
      | inr after ↦
          let was = new_taken system inside q (sym (ap (λ old. takes_old leaves old q) after) ∙ taken) in
          (or_left (takes_units other system q) (takes_old other (current_system other) q) was.0, was.1)
    ]

    all_taken : (q : Name) → takes_switched leaves system q ≡ true → (takes_switched other system q ≡ true) × IsInStore q
    all_taken q taken = elim (or_cases (takes_units leaves system q) (takes_old leaves (current_system leaves) q) taken) [
      | inl new ↦
          let was = new_taken system inside q new in
          (or_left (takes_units other system q) (takes_old other (current_system other) q) was.0, was.1)
      | inr old ↦ in_use_taken q old
    ]

    -- no content is too long that wasn't
    pub still_short : units_too_long other system ≡ None → units_too_long leaves system ≡ None
    still_short none = none_long leaves system (λ q taken. let was = all_taken q taken in same_long q was.1 ∙ not_long other system none q was.0)
