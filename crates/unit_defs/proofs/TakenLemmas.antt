-- The contents that the units of a system are read from.
use Rattle.std.proofs.Common.{◌≡◌, ◌&&◌, ◌||◌, ◌++◌, ◌∷◌, ℕ, Bool, true, false, cond, List, [], codes, Option, None, Some, IsSome, is_some, option_and_then, refl, sym, ap, ◌∙◌, append_assoc, inl, inr}
use Rattle.std.proofs.lemmas.Bool.{cases_Bool, or_cases, or_left, or_right}
use Rattle.std.proofs.lemmas.List.Folds.{list_any-append}
use Rattle.std.specs.FinMap.{keys}
use Rattle.host_trait.specs.World.{Leaves, content_of, is_listed}
use Rattle.host_trait.proofs.NameOrder.{has_filter, name_exact}
use Rattle.leaf_limits.specs.Limits.{AreTaken, is_long}
use Rattle.leaf_limits.proofs.PastLemmas.{is_key, is_there}
use Rattle.std.proofs.lemmas.Bool.{ltb-true}
use Rattle.switch_names.specs.Names.{Name, has, is_name}
use Rattle.switch_names.specs.Path.{is_below, slash}
use Rattle.switch_names.specs.Texts.{after_front}
use Rattle.switch_names.specs.UnitName.{IsUnitName}
use Rattle.switch_names.proofs.Below.{below_both, below_front}
use Rattle.switch_names.proofs.Cuts.{front_is}
use Rattle.switch_names.proofs.Names.{name_turned}
use Rattle.unit_text.specs.declared.assignment.Assignment.{Assignment}
use Rattle.unit_defs.specs.declared.place.UnitPlace.{UnitPlace}
use Rattle.unit_defs.specs.declared.place.UnitPlace.TheVariants.{File, DropIn, Want}
use Rattle.unit_defs.specs.declared.unit.Unit.{Unit}
use Rattle.unit_defs.specs.Defs.{HaveFileTexts, own_in}
use Rattle.unit_defs.specs.Files.{paths_of}
use Rattle.unit_defs.specs.Fstab.{fstab_path}
use Rattle.unit_defs.specs.Place.{path_of, place_after, place_in, place_of, unit_folder}
use Rattle.unit_defs.specs.Taken.{NotesLong, is_read, takes_place, takes_units}
use Rattle.unit_defs.specs.Units.{file_text}
use Rattle.unit_defs.proofs.NotingLemmas.{both_noted}
use Rattle.unit_defs.proofs.PathLemmas.{places_named}
use Rattle.unit_defs.proofs.WorldLemmas.{is_among}

-- what is taken is read
pub taken_read : (own : Name → Option (List Assignment)) (place : Option UnitPlace) → takes_place own place ≡ true → is_read place ≡ true
taken_read own None is = absurd cc
taken_read own (Some (File unit)) is = refl
taken_read own (Some (DropIn unit name)) is = refl
taken_read own (Some (Want unit name)) is = absurd cc

-- what is read of the folder of units stands in it
pub read_inside : (system q : List ℕ) → is_read (place_of system q) ≡ true → (rest : List ℕ) × (q ≡ path_of system rest)
read_inside system q is = by (after_front (path_of system []) q) refl is
  where
    by : (o : Option (List ℕ)) → after_front (path_of system []) q ≡ o → is_read (option_and_then place_in o) ≡ true → (rest : List ℕ) × (q ≡ path_of system rest)
    by None found is = absurd cc
    by (Some rest) found is = (rest, front_is (path_of system []) q rest found ∙ append_assoc (unit_folder system) (slash ∷ []) rest)

-- what is read and has content is listed
read_listed : (leaves : Leaves) (system q : List ℕ) → is_read (place_of system q) ≡ true → IsSome (content_of leaves q) → has (paths_of leaves system) q ≡ true
read_listed leaves system q read there =
    let inside = read_inside system q read in
    let listed : is_listed (unit_folder system) q ≡ true = ap (is_listed (unit_folder system)) inside.1 ∙ is_among system inside.0 in
    has_filter (is_listed (unit_folder system)) (keys leaves) q ∙ (λ i. listed i && is_key leaves q there i)

-- what is too long of the paths that are listed is what is too long of the folder
pub folder_noted :
    (leaves : Leaves) (system front : List ℕ) (paths : List Name) (old new : Bool) → front ≡ path_of system [] → paths ≡ paths_of leaves system →
    NotesLong old new (λ q. has paths q && is_read (place_after front q)) leaves → NotesLong old new (λ q. is_read (place_of system q)) leaves
folder_noted leaves system front paths old new is_front are_paths noted unset =
    let was = noted unset in (
      was.0,
      λ q read. elim (cases_Bool (is_long leaves q)) [
        | inl long ↦ was.1 q
            (λ i. (ap (λ (ps : List Name). has ps q) are_paths ∙ read_listed leaves system q read (is_there leaves q (ltb-true _ _ long))) i
            && (ap (λ f. is_read (place_after f q)) is_front ∙ read) i)
        | inr short ↦ short
      ],
    )

-- what is too long of the folder and of the fstab is what is too long of what is taken
pub units_noted :
    (leaves : Leaves) (system : Name) (old middle new : Bool) → NotesLong old middle (λ q. is_read (place_of system q)) leaves →
    NotesLong middle new (λ q. is_name q (fstab_path system)) leaves → NotesLong old new (takes_units leaves system) leaves
units_noted leaves system old middle new =
    both_noted leaves (λ q. is_read (place_of system q)) (λ q. is_name q (fstab_path system)) (takes_units leaves system) old middle new
    (λ q taken. elim (or_cases (is_name q (fstab_path system)) (takes_place (file_text leaves system) (place_of system q)) taken) [
      | inl fstab ↦ or_right (is_read (place_of system q)) (is_name q (fstab_path system)) fstab
      | inr placed ↦ or_left (is_read (place_of system q)) (is_name q (fstab_path system)) (taken_read (file_text leaves system) (place_of system q) placed)
    ])

-- where the same units have a text of their own, the same is taken
same_taken :
    (system q : List ℕ) (own other : Name → Option (List Assignment)) → ((unit : Name) → IsUnitName unit → is_some (own unit) ≡ is_some (other unit)) →
    takes_place own (place_of system q) ≡ takes_place other (place_of system q)
same_taken system q own other same = by (place_of system q) refl
  where
    by : (place : Option UnitPlace) → place_of system q ≡ place → takes_place own place ≡ takes_place other place
    by None is = refl
    by (Some (File unit)) is = refl
    by (Some (DropIn unit name)) is = same unit ((places_named system q (DropIn unit name)).0 is).0
    by (Some (Want unit name)) is = refl

-- the paths that were kept are those that are taken
pub all_taken :
    (leaves : Leaves) (system fstab front : List ℕ) (paths taken : List Name) (units : List Unit) → fstab ≡ fstab_path system → front ≡ path_of system [] → paths ≡ paths_of leaves system →
    HaveFileTexts leaves system units → ((q : Name) → has taken q ≡ (is_name q fstab || (has paths q && takes_place (own_in units) (place_after front q)))) → AreTaken taken (takes_units leaves system) leaves
all_taken leaves system fstab front paths taken units is_fstab is_front are_paths are kept q there =
    kept q
    ∙ (λ i. is_name q (is_fstab i) || (has (are_paths i) q && takes_place (own_in units) (place_after (is_front i) q)))
    ∙ ap (λ b. is_name q (fstab_path system) || (has (paths_of leaves system) q && b)) (same_taken system q (own_in units) (file_text leaves system) (λ unit named. ap is_some (are unit named)))
    ∙ ap (λ b. is_name q (fstab_path system) || b) (by (takes_place (file_text leaves system) (place_of system q)) refl)
  where
    by : (b : Bool) → takes_place (file_text leaves system) (place_of system q) ≡ b → (has (paths_of leaves system) q && b) ≡ b
    by true is = ap (λ c. c && true) (read_listed leaves system q (taken_read (file_text leaves system) (place_of system q) is) there)
    by false is = neither (has (paths_of leaves system) q)
      where
        neither : (c : Bool) → (c && false) ≡ false
        neither true = refl
        neither false = refl

-- where the files of a system's units say the same, the same is taken
pub taken_by_files :
    (leaves other : Leaves) (system : Name) → ((unit : Name) → file_text leaves system unit ≡ file_text other system unit) →
    (q : Name) → takes_units leaves system q ≡ takes_units other system q
taken_by_files leaves other system same q = λ i. is_name q (fstab_path system) || takes_place (λ unit. same unit i) (place_of system q)

-- what is taken lies below the system
pub taken_below : (leaves : Leaves) (system q : Name) → takes_units leaves system q ≡ true → is_below q system ≡ true
unfolding fstab_path unit_folder
taken_below leaves system q taken = elim (or_cases (is_name q (fstab_path system)) (takes_place (file_text leaves system) (place_of system q)) taken) [
  | inl fstab ↦ ap (λ p. is_below p system) (name_exact q (fstab_path system) fstab) ∙ below_front system (codes "etc/fstab")
  | inr placed ↦
      let inside = read_inside system q (taken_read (file_text leaves system) (place_of system q) placed) in
      ap (λ p. is_below p system) inside.1
      ∙ below_both (path_of system inside.0) (unit_folder system) system (below_front (unit_folder system) inside.0) (below_front system (codes "etc/systemd/system"))
]

-- ---- the paths that are kept, with one path more

module _ (test : Name → Bool) (fstab p : Name) (done : List Name) (had now : Name → Bool) (before : (q : Name) → had q ≡ (is_name q fstab || (has done q && test q))) where
  abbrev Kept : (Name → Bool) → Type 0
  Kept there = (q : Name) → there q ≡ (is_name q fstab || (has (done ++ p ∷ []) q && test q))

  joined : (q : Name) → (is_name q fstab || ((has done q || (is_name q p || false)) && test q)) ≡ (is_name q fstab || (has (done ++ p ∷ []) q && test q))
  joined q = ap (λ b. is_name q fstab || (b && test q)) (sym (list_any-append (is_name q) done (p ∷ [])))

  one_kept : (a d t b : Bool) → (b ≡ true → t ≡ true) → cond b true (a || (d && t)) ≡ (a || ((d || (b || false)) && t))
  one_kept true d t true same = refl
  one_kept false true t true same = sym (same refl)
  one_kept false false t true same = sym (same refl)
  one_kept a true t false same = refl
  one_kept a false t false same = refl

  one_passed : (a d t b : Bool) → (b ≡ true → t ≡ false) → (a || (d && t)) ≡ (a || ((d || (b || false)) && t))
  one_passed true d t true same = refl
  one_passed false true t true same = refl
  one_passed false false t true same = sym (same refl)
  one_passed a true t false same = refl
  one_passed a false t false same = refl

  -- it is kept
  pub kept_more : test p ≡ true → ((q : Name) → now q ≡ cond (is_name p q) true (had q)) → Kept now
  kept_more passes added q =
      added q ∙ (λ i. cond (name_turned p q i) true (before q i))
      ∙ one_kept (is_name q fstab) (has done q) (test q) (is_name q p) (λ same. ap test (name_exact q p same) ∙ passes) ∙ joined q

  -- it is passed over
  pub passed_more : test p ≡ false → Kept had
  passed_more fails q =
      before q ∙ one_passed (is_name q fstab) (has done q) (test q) (is_name q p) (λ same. ap test (name_exact q p same) ∙ fails) ∙ joined q
