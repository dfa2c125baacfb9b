-- Trees with the same in the store have the same systems.
use Rattle.std.proofs.Common.{◌≡◌, ◌&&◌, ◌||◌, ◌++◌, ◌∷◌, ℕ, Bool, true, false, cond, not, List, [], Option, None, Some, is_some, codes, map, filter, flat_map, option_map, option_and_then, refl, sym, ap, subst, ◌∙◌, inl, inr}
use Rattle.std.proofs.lemmas.Bool.{and_parts, or_cases}
use Rattle.std.proofs.lemmas.List.Kept.{IsStrictlySortedBy-filter}
use Rattle.std.proofs.lemmas.Map.Lookups.{exact_bytes, btree_set_from_contains}
use Rattle.std.specs.FinMap.{from_entries, get, keys}
use Rattle.std.specs.List.{AllByRecursion, find}
use Rattle.std.specs.List.Sorted.{IsStrictlySortedBy}
use Rattle.std.specs.FinMap as finite
use Rattle.std.specs.Option.{option_or}
use Rattle.std.proofs.lemmas.Slice.Eq.{bytes_eq-Decides}
use Rattle.host_trait.specs.declared.leaf.LeafKind.{LeafKind}
use Rattle.host_trait.specs.declared.leaf.LeafKind.TheVariants.{File, Link}
use Rattle.host_trait.specs.World.{Leaves, bytes_cmp, content_of, file_at, file_bytes, is_listed, is_path, leaf_content, stage, store_place}
use Rattle.host_trait.proofs.Places.{bytes_total}
use Rattle.host_trait.proofs.NameOrder.{has_filter}
use Rattle.host_trait.proofs.KeyOrder.{keys_sorted}
use Rattle.owed_lists.proofs.OrderLemmas.{has_key}
use Rattle.owed_plan.specs.Store.{AreSameInStore, IsInStore, IsOldInStore, SystemsLaw}
use Rattle.owed_plan.specs.Systems.{systems_of, text_at}
use Rattle.switch_names.specs.Names.{Name, has}
use Rattle.switch_names.specs.Path.{is_below}
use Rattle.switch_names.specs.UnitName.{is_unit}
use Rattle.switch_names.proofs.Below.{below_front}
use Rattle.switch_parts.proofs.StoreLemmas.{store_below, stored}
use Rattle.unit_defs.specs.Count.{unit_names}
use Rattle.unit_defs.specs.Files.{drop_in_at, file_of, paths_of, want_at, own_files}
use Rattle.unit_defs.specs.Fstab.{fstab_of, fstab_path, line_text, names_of, wanted_by_lines}
use Rattle.unit_defs.specs.declared.part.FilePart.{FilePart}
use Rattle.unit_defs.specs.Part.{line_part, merged, part_of}
use Rattle.unit_defs.specs.Place.{path_of, place_of, unit_folder}
use Rattle.unit_defs.proofs.FstabLemmas.{fstab_same}
use Rattle.unit_defs.specs.Units.{find_text, first_fault_of, in_order, file_part, own_fault, own_part, unit_at, units_of, own_text, text_of, wanted, wanted_of, wants_of}

module _ (leaves other : Leaves) (same : AreSameInStore leaves other) where
  -- ---- contents

  file_same : (target : List ℕ) → file_at leaves (store_place target) ≡ file_at other (store_place target)
  file_same target = by (store_place target) refl
    where
      by : (place : Option Name) → store_place target ≡ place → file_at leaves place ≡ file_at other place
      by None leads = refl
      by (Some at) leads = ap file_bytes (same at (stored target at leads))

  pub leaf_same : (leaf : Option LeafKind) → leaf_content leaves leaf ≡ leaf_content other leaf
  leaf_same None = refl
  leaf_same (Some (File bytes mode uid gid)) = refl
  leaf_same (Some (Link target)) = file_same target

  pub content_same : (at : List ℕ) → IsInStore at → content_of leaves at ≡ content_of other at
  content_same at inside = ap (leaf_content leaves) (same at inside) ∙ leaf_same (get other at)

-- ---- lists

same_tests : (listed : Bool) (one other : Bool) → (listed ≡ true → one ≡ other) → (listed && one) ≡ (listed && other)
same_tests true one other same = same refl
same_tests false one other same = refl

all_passed : (p : List ℕ → Bool) (P : List ℕ → Type 0) → ((q : List ℕ) → p q ≡ true → P q) → (qs : List (List ℕ)) → AllByRecursion P (filter p qs)
all_passed p P each [] = tt
all_passed p P each (q ∷ qs) =
    elim (p q) as (λ b. p q ≡ b → AllByRecursion P (cond b (q ∷ filter p qs) (filter p qs))) [
      | true ↦ λ is. (each q is, all_passed p P each qs)
      | false ↦ λ is. all_passed p P each qs
    ] refl

flat_same : {A : Type 0} (P : List ℕ → Type 0) (f g : List ℕ → List A) → ((q : List ℕ) → P q → f q ≡ g q) → (qs : List (List ℕ)) → AllByRecursion P qs → flat_map f qs ≡ flat_map g qs
flat_same P f g each [] all = refl
flat_same P f g each (q ∷ qs) all = λ i. each q all.0 i ++ flat_same P f g each qs all.1 i

-- ---- a system

module _ (leaves other : Leaves) (same : AreSameInStore leaves other) (system : Name) (inside : IsInStore system) where
  folder_inside : IsInStore (unit_folder system)
  unfolding unit_folder
  folder_inside = store_below (unit_folder system) system (below_front system (codes "etc/systemd/system")) inside

  path_inside : (name : List ℕ) → IsInStore (path_of system name)
  path_inside name = store_below (path_of system name) (unit_folder system) (below_front (unit_folder system) name) folder_inside

  listed_inside : (q : List ℕ) → is_listed (unit_folder system) q ≡ true → IsInStore q
  listed_inside q is =
      elim (or_cases (is_path q (unit_folder system)) (is_below q (unit_folder system)) (and_parts (is_path q (unit_folder system) || is_below q (unit_folder system)) (not (is_path q stage)) is).0) [
        | inl at ↦ subst IsInStore (sym ((bytes_eq-Decides q (unit_folder system)).0 at)) folder_inside
        | inr below ↦ store_below q (unit_folder system) below folder_inside
      ]

  has_listed : (tree : Leaves) (q : List ℕ) → has (paths_of tree system) q ≡ (is_listed (unit_folder system) q && is_some (get tree q))
  has_listed tree q = has_filter (is_listed (unit_folder system)) (keys tree) q ∙ ap (λ b. is_listed (unit_folder system) q && b) (has_key tree q)

  sorted_paths : (tree : Leaves) → IsStrictlySortedBy bytes_cmp (paths_of tree system)
  sorted_paths tree = IsStrictlySortedBy-filter bytes_cmp (is_listed (unit_folder system)) (keys tree) (keys_sorted tree)

  paths_same : paths_of leaves system ≡ paths_of other system
  paths_same =
      btree_set_from_contains bytes_total (record { keys = paths_of leaves system }) (record { keys = paths_of other system }) (sorted_paths leaves) (sorted_paths other)
      (λ q. has_listed leaves q ∙ same_tests (is_listed (unit_folder system) q) (is_some (get leaves q)) (is_some (get other q)) (λ is. ap is_some (same q (listed_inside q is))) ∙ sym (has_listed other q))
      exact_bytes

  abbrev dropped : Leaves → Name → List ℕ → List (List ℕ × List ℕ)
  dropped tree unit path = drop_in_at unit (place_of system path) (content_of tree path)

  dropped_same : (unit : Name) → flat_map (dropped leaves unit) (paths_of leaves system) ≡ flat_map (dropped other unit) (paths_of other system)
  dropped_same unit =
      ap (flat_map (dropped leaves unit)) paths_same
      ∙ flat_same IsInStore (dropped leaves unit) (dropped other unit) (λ q in_store. ap (drop_in_at unit (place_of system q)) (content_same leaves other same q in_store)) (paths_of other system)
      (all_passed (is_listed (unit_folder system)) IsInStore listed_inside (keys other))

  file_of_same : (unit : Name) → file_of leaves system unit ≡ file_of other system unit
  file_of_same unit = content_same leaves other same (path_of system unit) (path_inside unit)

  fstab_inside : IsInStore (fstab_path system)
  unfolding fstab_path
  fstab_inside = store_below (fstab_path system) system (below_front system (codes "etc/fstab")) inside

  lines_same : fstab_of leaves system ≡ fstab_of other system
  lines_same = fstab_same leaves other system (content_same leaves other same (fstab_path system) fstab_inside)

  pub files_same : (unit : Name) → file_part leaves system unit ≡ file_part other system unit
  files_same unit =
      λ i. option_map (λ files. merged (map part_of files)) (own_files (λ name. file_of_same name i) (λ name. finite.values (from_entries {R = bytes_cmp} (dropped_same name i))) unit)

  part_same : (unit : Name) → own_part leaves system unit ≡ own_part other system unit
  part_same unit = λ i. option_or (files_same unit i) (option_map line_part (line_text (lines_same i) unit))

  own_same : (unit : Name) → own_text leaves system unit ≡ own_text other system unit
  own_same unit = ap (option_map (λ (part : FilePart). part.text)) (part_same unit)

  fault_same : (unit : Name) → own_fault leaves system unit ≡ own_fault other system unit
  fault_same unit = ap (option_and_then (λ (part : FilePart). part.fault)) (files_same unit)

  units_same : units_of leaves system ≡ units_of other system
  units_same = ap (λ paths. in_order (flat_map (λ path. unit_at (place_of system path)) paths)) paths_same

  pub first_fault_same : first_fault_of leaves system ≡ first_fault_of other system
  first_fault_same =
      λ i. option_and_then (λ unit. option_map (λ line. (unit, line)) (fault_same unit i)) (find (λ unit. is_some (fault_same unit i)) (units_same i))

  pub names_same : unit_names leaves system ≡ unit_names other system
  names_same = λ i. filter (λ unit. is_unit unit && is_some (own_same unit i)) (in_order (units_same i ++ names_of (lines_same i)))

  pub text_same : (unit : Name) → text_of leaves system unit ≡ text_of other system unit
  text_same unit = λ i. find_text (λ name. own_same name i) unit

  wants_same : (unit : Name) → wants_of leaves system unit ≡ wants_of other system unit
  wants_same unit = λ i. flat_map (λ path. want_at unit (place_of system path)) (paths_same i) ++ wanted_by_lines (lines_same i) unit

  wanted_same : (unit : Name) → wanted_of leaves system unit ≡ wanted_of other system unit
  wanted_same unit = λ i. wanted (λ name. own_same name i) (wants_same unit i) (text_same unit i)

old_same : (leaves other : Leaves) (same : AreSameInStore leaves other) (old : Option Name) → IsOldInStore old → (unit : Name) → text_at leaves old unit ≡ text_at other old unit
old_same leaves other same None inside unit = refl
old_same leaves other same (Some system) inside unit = text_same leaves other same system inside unit

pub systems_law : SystemsLaw
systems_law leaves other old new same old_inside inside =
    λ i. systems_of (λ unit. old_same leaves other same old old_inside unit i) (λ unit. text_same leaves other same new inside unit i) (λ unit. wanted_same leaves other same new inside unit i)
