-- The first unit with a faulty file, among the units that have a file or a drop-in.
use Rattle.std.proofs.Common.{◌≡◌, ◌⊎◌, ℕ, ◌==◌, ◌||◌, Bool, true, false, cond, List, [], ◌∷◌, ◌++◌, length, map, Option, None, Some, is_some, option_map, option_and_then, refl, sym, ap, subst, ◌∙◌, inl, inr}
use Rattle.std.specs.FinMap.{get}
use Rattle.std.specs.List.{find, flat_map, list_any}
use Rattle.std.specs.List.Sorted.{IsStrictlySortedBy}
use Rattle.std.specs.Option.{option_map_or, option_or}
use Rattle.std.specs.declared.cmp.Ordering.TheVariants.{Less}
use Rattle.std.proofs.lemmas.Bool.{both_ways, or_right, or_cases}
use Rattle.switch_names.specs.UnitName.{IsUnitName, template_of}
use Rattle.switch_names.specs.Names.{has, is_name}
use Rattle.host_trait.specs.declared.leaf.LeafKind.{LeafKind}
use Rattle.host_trait.specs.World.{Leaves, bytes_cmp, content_of, leaf_content}
use Rattle.unit_defs.specs.declared.part.FilePart.{FilePart}
use Rattle.unit_defs.specs.declared.place.UnitPlace.{UnitPlace}
use Rattle.unit_defs.specs.declared.place.UnitPlace.TheVariants.{File, DropIn, Want}
use Rattle.unit_defs.specs.Files.{base_of, drop_in_at, drop_ins_of, file_of, paths_of}
use Rattle.unit_defs.specs.Found.{is_file}
use Rattle.unit_text.specs.declared.assignment.Assignment.{Assignment}
use Rattle.fstab_mounts.specs.declared.fs_unit.FsUnit.{FsUnit}
use Rattle.unit_defs.specs.Fstab.{fstab_of, line_text, names_of}
use Rattle.unit_defs.specs.Part.{line_part, merged, part_of}
use Rattle.unit_defs.specs.Place.{path_of, place_of}
use Rattle.unit_defs.specs.Units.{HasNoFault, IsFirstFault, file_part, first_fault_of, own_fault, own_part, own_text, unit_at, units_of}
use Rattle.unit_defs.proofs.DropInLemmas.{none_exactly, some_more}
use Rattle.switch_names.proofs.Names.{name_turned}
use Rattle.host_trait.proofs.NameOrder.{less_is_other, name_exact, name_itself, not_both_less, above_all}
use Rattle.unit_defs.proofs.NameLemmas.{has-append}
use Rattle.unit_defs.proofs.OrderLemmas.{has_in_order, in_order_sorted}
use Rattle.unit_defs.proofs.PathLemmas.{places_named}
use Rattle.unit_defs.proofs.WorldLemmas.{among}
use Rattle.host_trait.proofs.Moments.{none_not_some}
use Rattle.std.proofs.Math.Bool.{or-false}
use Rattle.std.proofs.lemmas.Option.{same_Some}

-- ---- the first of some sorted names that has a fault

module _ (fault : List ℕ → Option ℕ) where
  abbrev first_named : List (List ℕ) → Option (List ℕ × ℕ)
  first_named names = option_and_then (λ name. option_map (λ line. (name, line)) (fault name)) (find (λ name. is_some (fault name)) names)

  -- none of these names below this one has a fault
  abbrev NoneBelow : List (List ℕ) → List ℕ → Type 0
  NoneBelow names name = (other : List ℕ) → has names other ≡ true → bytes_cmp other name ≡ Less → fault other ≡ None

  step : (name : List ℕ) (names : List (List ℕ)) (o : Option ℕ) → fault name ≡ o → first_named (name ∷ names) ≡ option_or (option_map (λ line. (name, line)) o) (first_named names)
  step name names None is = ap (λ (o : Option ℕ). option_and_then (λ n. option_map (λ line. (n, line)) (fault n)) (cond (is_some o) (Some name) (find (λ n. is_some (fault n)) names))) is
  step name names (Some line) is =
      ap (λ (o : Option ℕ). option_and_then (λ n. option_map (λ line. (n, line)) (fault n)) (cond (is_some o) (Some name) (find (λ n. is_some (fault n)) names))) is
      ∙ ap (option_map (λ line. (name, line))) is

  first_to : (names : List (List ℕ)) (name : List ℕ) (line : ℕ) → IsStrictlySortedBy bytes_cmp names → has names name ≡ true → fault name ≡ Some line → NoneBelow names name →
      first_named names ≡ Some (name, line)
  unfolding IsStrictlySortedBy
  first_to [] name line sorted there faulty earlier = absurd (cc)
  first_to (n ∷ names) name line sorted there faulty earlier = by (is_name name n) refl there (λ rest. first_to names name line sorted.1 rest faulty (λ other is less. earlier other (or_right (is_name other n) (has names other) is) less))
    where
      by : (b : Bool) → is_name name n ≡ b → (b || has names name) ≡ true → (has names name ≡ true → first_named names ≡ Some (name, line)) → first_named (n ∷ names) ≡ Some (name, line)
      by true same there rest =
          step n names (Some line) (subst (λ k. fault k ≡ Some line) (name_exact name n same) faulty) ∙ ap (λ k. Some (k, line)) (sym (name_exact name n same))
      by false other there rest =
          step n names None (earlier n (ap (λ b. b || has names n) (name_itself n)) (above_all n name names sorted.0 there)) ∙ rest there

  none_to : (names : List (List ℕ)) → ((name : List ℕ) → has names name ≡ true → fault name ≡ None) → first_named names ≡ None
  none_to [] none = refl
  none_to (n ∷ names) none =
      step n names None (none n (ap (λ b. b || has names n) (name_itself n))) ∙ none_to names (λ name is. none name (or_right (is_name name n) (has names name) is))

  none_from : (names : List (List ℕ)) → first_named names ≡ None → (name : List ℕ) → has names name ≡ true → fault name ≡ None
  none_from [] none name there = absurd (cc)
  none_from (n ∷ names) none name there = by (fault n) refl (sym (step n names (fault n) refl) ∙ none) (none_from names)
    where
      by : (o : Option ℕ) → fault n ≡ o → option_or (option_map (λ line. (n, line)) o) (first_named names) ≡ None →
          (first_named names ≡ None → (other : List ℕ) → has names other ≡ true → fault other ≡ None) → fault name ≡ None
      by None is none rest = elim (or_cases (is_name name n) (has names name) there) [
        | inl same ↦ ap fault (name_exact name n same) ∙ is
        | inr others ↦ rest none name others
      ]
      by (Some line) is none rest = absurd (cc)

  -- what is found is the first of these names that has a fault
  pub record IsFirstOf (names : List (List ℕ)) (name : List ℕ) (line : ℕ) : Type 0 where
    pub there : has names name ≡ true
    pub faulty : fault name ≡ Some line
    pub earlier : NoneBelow names name

  first_from : (names : List (List ℕ)) (name : List ℕ) (line : ℕ) → IsStrictlySortedBy bytes_cmp names → first_named names ≡ Some (name, line) → IsFirstOf names name line
  unfolding IsStrictlySortedBy
  first_from [] name line sorted first = absurd (cc)
  first_from (n ∷ names) name line sorted first = by (fault n) refl (sym (step n names (fault n) refl) ∙ first) (first_from names name line sorted.1)
    where
      by : (o : Option ℕ) → fault n ≡ o → option_or (option_map (λ l. (n, l)) o) (first_named names) ≡ Some (name, line) →
          (first_named names ≡ Some (name, line) → IsFirstOf names name line) → IsFirstOf (n ∷ names) name line
      by None is first rest =
          let found = rest first in
          record {
            there = or_right (is_name name n) (has names name) found.there;
            faulty = found.faulty;
            earlier = λ other there less. elim (or_cases (is_name other n) (has names other) there) [
              | inl same ↦ ap fault (name_exact other n same) ∙ is
              | inr others ↦ found.earlier other others less
            ];
          }
      by (Some l) is first rest =
          let same : (n, l) ≡ (name, line) = same_Some (n, l) (name, line) first in
          let same_name : n ≡ name = ap (λ (p : List ℕ × ℕ). p.0) same in
          let same_line : l ≡ line = ap (λ (p : List ℕ × ℕ). p.1) same in
          subst (λ k. IsFirstOf (n ∷ names) k line) same_name (record {
            there = ap (λ b. b || has names n) (name_itself n);
            faulty = is ∙ ap (λ k. Some k) same_line;
            earlier = λ other there less. elim (or_cases (is_name other n) (has names other) there) [
              | inl equal ↦ absurd (both_ways _ (less_is_other other n less) equal)
              | inr others ↦ not_both_less n other (above_all n other names sorted.0 others) less
            ];
          })

-- ---- the units that have a file or a drop-in

-- a name that an item which passes a test gives is given by all
pub has_by_test : {X : Type 0} (p : X → Bool) (f : X → List (List ℕ)) (name : List ℕ) → ((x : X) → p x ≡ true → has (f x) name ≡ true) → (xs : List X) → list_any p xs ≡ true → has (flat_map f xs) name ≡ true
has_by_test p f name gives [] some = absurd (cc)
has_by_test p f name gives (x ∷ xs) some = has-append (f x) (flat_map f xs) name ∙ elim (or_cases (p x) (list_any p xs) some) [
  | inl first ↦ ap (λ b. b || has (flat_map f xs) name) (gives x first)
  | inr rest ↦ or_right (has (f x) name) (has (flat_map f xs) name) (has_by_test p f name gives xs rest)
]

has_by_some : {X A : Type 0} (g : X → List A) (f : X → List (List ℕ)) (name : List ℕ) → ((x : X) → (length (g x) == 0) ≡ false → has (f x) name ≡ true) →
    (xs : List X) → (length (flat_map g xs) == 0) ≡ false → has (flat_map f xs) name ≡ true
has_by_some g f name gives [] some = absurd (cc)
has_by_some {X} {A} g f name gives (x ∷ xs) some = has-append (f x) (flat_map f xs) name ∙ by (g x) refl some (has_by_some g f name gives xs)
  where
    by : (ys : List A) → g x ≡ ys → (length (ys ++ flat_map g xs) == 0) ≡ false → ((length (flat_map g xs) == 0) ≡ false → has (flat_map f xs) name ≡ true) → (has (f x) name || has (flat_map f xs) name) ≡ true
    by [] is some rest = or_right (has (f x) name) (has (flat_map f xs) name) (rest some)
    by (y ∷ ys) is some rest = ap (λ b. b || has (flat_map f xs) name) (gives x (ap (λ zs. length zs == 0) is ∙ some_more (length ys)))

one_name : (unit other : List ℕ) → is_name other unit ≡ true → has (other ∷ []) unit ≡ true
one_name unit other is = ap (λ b. b || false) (name_turned unit other ∙ is)

at_file : (unit : List ℕ) (place : Option UnitPlace) → is_file unit place ≡ true → has (unit_at place) unit ≡ true
at_file unit None is = absurd (cc)
at_file unit (Some (File other)) is = one_name unit other is
at_file unit (Some (DropIn other name)) is = absurd (cc)
at_file unit (Some (Want other name)) is = absurd (cc)

at_drop_in : (unit : List ℕ) (place : Option UnitPlace) (content : Option (List ℕ)) → (length (drop_in_at unit place content) == 0) ≡ false → has (unit_at place) unit ≡ true
at_drop_in unit None content is = absurd (cc)
at_drop_in unit (Some (File other)) content is = absurd (cc)
at_drop_in unit (Some (Want other name)) content is = absurd (cc)
at_drop_in unit (Some (DropIn other name)) None is = absurd (cc)
at_drop_in unit (Some (DropIn other name)) (Some content) is = by (is_name other unit) refl is
  where
    by : (b : Bool) → is_name other unit ≡ b → (length {A = List ℕ × List ℕ} (cond b ((name, content) ∷ []) []) == 0) ≡ false → has (other ∷ []) unit ≡ true
    by true same is = one_name unit other same
    by false same is = absurd (cc)

-- a leaf that has content is there
leaf_there : (leaves : Leaves) (o : Option LeafKind) → is_some (leaf_content leaves o) ≡ true → is_some o ≡ true
leaf_there leaves None is = absurd (cc)
leaf_there leaves (Some leaf) is = refl

-- what has files has its own or drop-ins
caused : (file : Option (List ℕ)) (drop_ins : List (List ℕ)) (template : Option (List ℕ)) (all : List ℕ → List (List ℕ)) →
    is_some (option_map (λ files. merged (map part_of files)) (option_map all (base_of file drop_ins template))) ≡ true →
    (is_some file ≡ true) ⊎ ((length drop_ins == 0) ≡ false)
caused (Some file) drop_ins template all is = inl refl
caused None [] template all is = absurd (cc)
caused None (drop_in ∷ drop_ins) template all is = inr (some_more (length drop_ins))

has_part : (part : Option FilePart) (line : ℕ) → option_and_then (λ (p : FilePart). p.fault) part ≡ Some line → is_some part ≡ true
has_part None line is = absurd (cc)
has_part (Some part) line is = refl

part_of_text : (part : Option FilePart) → is_some (option_map (λ (p : FilePart). p.text) part) ≡ is_some part
part_of_text None = refl
part_of_text (Some part) = refl

files_or_line : (files : Option FilePart) (line : Option (List Assignment)) → is_some (option_or files (option_map line_part line)) ≡ true → (is_some files ≡ true) ⊎ (is_some line ≡ true)
files_or_line (Some part) line is = inl refl
files_or_line None (Some text) is = inr refl
files_or_line None None is = absurd (cc)

line_there : (lines : List FsUnit) (unit : List ℕ) → is_some (line_text lines unit) ≡ true → has (names_of lines) unit ≡ true
line_there [] unit is = absurd (cc)
line_there (line ∷ lines) unit is = ap (λ b. b || has (names_of lines) unit) (name_turned unit line.unit) ∙ by (is_name line.unit unit) is (line_there lines unit)
  where
    by : (b : Bool) → is_some (option_map (λ (l : FsUnit). l.text) (cond b (Some line) (find (λ l. is_name l.unit unit) lines))) ≡ true →
        (is_some (line_text lines unit) ≡ true → has (names_of lines) unit ≡ true) → (b || has (names_of lines) unit) ≡ true
    by true is rest = refl
    by false is rest = rest is

only_name : (unit other : List ℕ) → has (other ∷ []) unit ≡ true → unit ≡ other
only_name unit other there = name_exact unit other (sym (or-false (is_name unit other)) ∙ there)

module _ (leaves : Leaves) (system : List ℕ) where
  abbrev at_path : List ℕ → List (List ℕ)
  at_path path = unit_at (place_of system path)

  with_file : (unit : List ℕ) → IsUnitName unit → is_some (file_of leaves system unit) ≡ true → has (flat_map at_path (paths_of leaves system)) unit ≡ true
  with_file unit named some =
      has_by_test (λ path. is_file unit (place_of system path)) at_path unit (λ path. at_file unit (place_of system path)) (paths_of leaves system)
      (among leaves system unit named ∙ leaf_there leaves (get leaves (path_of system unit)) some)

  with_drop_ins : (unit : List ℕ) → (length (drop_ins_of leaves system unit) == 0) ≡ false → has (flat_map at_path (paths_of leaves system)) unit ≡ true
  with_drop_ins unit some =
      has_by_some (λ path. drop_in_at unit (place_of system path) (content_of leaves path)) at_path unit (λ path. at_drop_in unit (place_of system path) (content_of leaves path)) (paths_of leaves system)
      (sym (none_exactly (flat_map (λ path. drop_in_at unit (place_of system path) (content_of leaves path)) (paths_of leaves system))) ∙ some)

  -- a unit whose files say something is among the units
  part_there : (unit : List ℕ) → IsUnitName unit → is_some (file_part leaves system unit) ≡ true → has (units_of leaves system) unit ≡ true
  part_there unit named some = has_in_order (flat_map at_path (paths_of leaves system)) unit ∙ elim (by some) [
    | inl file ↦ with_file unit named file
    | inr drop_ins ↦ with_drop_ins unit drop_ins
  ]
    where
      by : is_some (file_part leaves system unit) ≡ true → (is_some (file_of leaves system unit) ≡ true) ⊎ ((length (drop_ins_of leaves system unit) == 0) ≡ false)
      by is = caused (file_of leaves system unit) (drop_ins_of leaves system unit) (option_and_then (file_of leaves system) (template_of unit))
          (λ file. file ∷ option_map_or (drop_ins_of leaves system) (template_of unit) [] ++ drop_ins_of leaves system unit) is

  -- a unit with a text of its own has files, or a line in the fstab
  pub own_there : (unit : List ℕ) → IsUnitName unit → is_some (own_text leaves system unit) ≡ true → has (units_of leaves system ++ names_of (fstab_of leaves system)) unit ≡ true
  own_there unit named some =
      has-append (units_of leaves system) (names_of (fstab_of leaves system)) unit
      ∙ elim (files_or_line (file_part leaves system unit) (line_text (fstab_of leaves system) unit) (sym (part_of_text (own_part leaves system unit)) ∙ some)) [
        | inl files ↦ ap (λ b. b || has (names_of (fstab_of leaves system)) unit) (part_there unit named files)
        | inr line ↦ or_right (has (units_of leaves system) unit) (has (names_of (fstab_of leaves system)) unit) (line_there (fstab_of leaves system) unit line)
      ]

  faulty_there : (unit : List ℕ) (line : ℕ) → IsUnitName unit → own_fault leaves system unit ≡ Some line → has (units_of leaves system) unit ≡ true
  faulty_there unit line named faulty = part_there unit named (has_part (file_part leaves system unit) line faulty)

  named_at : (unit : List ℕ) (path : List ℕ) (place : Option UnitPlace) → place_of system path ≡ place → has (unit_at place) unit ≡ true → IsUnitName unit
  named_at unit path None is there = absurd (cc)
  named_at unit path (Some (Want other name)) is there = absurd (cc)
  named_at unit path (Some (File other)) is there = subst IsUnitName (sym (only_name unit other there)) ((places_named system path (File other)).0 is).0
  named_at unit path (Some (DropIn other name)) is there = subst IsUnitName (sym (only_name unit other there)) ((places_named system path (DropIn other name)).0 is).0

  all_named : (unit : List ℕ) (paths : List (List ℕ)) → has (flat_map at_path paths) unit ≡ true → IsUnitName unit
  all_named unit [] there = absurd (cc)
  all_named unit (path ∷ paths) there = elim (or_cases (has (at_path path) unit) (has (flat_map at_path paths) unit) (sym (has-append (at_path path) (flat_map at_path paths) unit) ∙ there)) [
    | inl first ↦ named_at unit path (place_of system path) refl first
    | inr rest ↦ all_named unit paths rest
  ]

  -- each of the units has the name of one
  units_named : (unit : List ℕ) → has (units_of leaves system) unit ≡ true → IsUnitName unit
  units_named unit there = all_named unit (paths_of leaves system) (sym (has_in_order (flat_map at_path (paths_of leaves system)) unit) ∙ there)

  no_fault_of : (unit : List ℕ) (o : Option ℕ) → own_fault leaves system unit ≡ o → ((line : ℕ) → own_fault leaves system unit ≡ Some line → ⊥) → own_fault leaves system unit ≡ None
  no_fault_of unit None is lacks = is
  no_fault_of unit (Some line) is lacks = absurd (lacks line is)

  -- the first fault is found
  pub first_is_found : (unit : List ℕ) (line : ℕ) → IsFirstFault leaves system unit line → first_fault_of leaves system ≡ Some (unit, line)
  first_is_found unit line first =
      first_to (own_fault leaves system) (units_of leaves system) unit line (in_order_sorted (flat_map at_path (paths_of leaves system)))
      (faulty_there unit line first.named first.faulty) first.faulty (λ other there less. first.earlier other (units_named other there) less)

  -- where no file is faulty none is found
  pub none_is_found : HasNoFault leaves system → first_fault_of leaves system ≡ None
  none_is_found none = none_to (own_fault leaves system) (units_of leaves system) (λ unit there. none unit (units_named unit there))

  -- what is found is the first fault
  pub found_is_first : (unit : List ℕ) (line : ℕ) → first_fault_of leaves system ≡ Some (unit, line) → IsFirstFault leaves system unit line
  found_is_first unit line is =
      let first = first_from (own_fault leaves system) (units_of leaves system) unit line (in_order_sorted (flat_map at_path (paths_of leaves system))) is in
      record {
        named = units_named unit first.there;
        faulty = first.faulty;
        earlier = λ other named less. no_fault_of other (own_fault leaves system other) refl (λ l faulty.
            none_not_some (own_fault leaves system other) l (first.earlier other (faulty_there other l named faulty) less) faulty);
      }

  -- where none is found no file is faulty
  pub found_none : first_fault_of leaves system ≡ None → HasNoFault leaves system
  found_none is = λ unit named. no_fault_of unit (own_fault leaves system unit) refl (λ line faulty.
      none_not_some (own_fault leaves system unit) line (none_from (own_fault leaves system) (units_of leaves system) is unit (faulty_there unit line named faulty)) faulty)
