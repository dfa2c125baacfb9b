-- What is read at all listed paths is all that the folder of units says.
use Rattle.std.proofs.Common.{◌≡◌, ℕ, Bool, true, false, cond, List, [], ◌∷◌, ◌++◌, length, get_or, codes, Option, None, Some, is_some, option_map, option_and_then, refl, sym, ap, subst, ◌∙◌, append_assoc, length-append, arith}
use Rattle.std.specs.BTreeMap.{is_at}
use Rattle.std.specs.FinMap.{contains_key-keys, get, keys}
use Rattle.std.specs.List.{flat_map, list_any}
use Rattle.std.specs.Map.{lookup}
use Rattle.std.specs.Option.{option_map_or}
use Rattle.std.specs.Ordering.{eq_by_cmp}
use Rattle.std.specs.Cmp.{both_ways as same_test}
use Rattle.std.proofs.lemmas.Map.Views.{any-filter_same}
use Rattle.switch_names.specs.Path.{slash}
use Rattle.switch_names.specs.UnitName.{IsUnitName}
use Rattle.host_trait.specs.declared.leaf.LeafKind.{LeafKind}
use Rattle.host_trait.specs.World.{Leaves, bytes_cmp, content_of, is_listed, leaf_content, stage}
use Rattle.unit_defs.specs.declared.reading.found.FoundUnits.{FoundUnits}
use Rattle.unit_defs.specs.declared.reading.found.UnitFiles.{UnitFiles}
use Rattle.unit_defs.specs.Files.{drop_in_at, file_of, folder_wants, paths_of}
use Rattle.unit_defs.specs.Found.{AreFilesAt, AreFilesOf, files_in, is_file}
use Rattle.unit_defs.specs.Fstab.{wanted_by_lines}
use Rattle.unit_defs.specs.Part.{part_of}
use Rattle.unit_defs.specs.Place.{path_of, place_after, unit_folder}
use Rattle.switch_names.specs.Names.{is_name}
use Rattle.std.proofs.lemmas.List.{append-nil}
use Rattle.unit_defs.proofs.DropInLemmas.{same_in_name_order}
use Rattle.host_trait.proofs.NameOrder.{name_exact, name_from}
use Rattle.host_trait.proofs.Listings.{is_among as listed_below}
use Rattle.unit_defs.proofs.PlaceLemmas.{file_path, file_there}

-- nothing in the folder of units is the stage
not_stage : (system rest : List ℕ) → path_of system rest ≡ stage → ⊥
unfolding unit_folder stage
not_stage [] rest same = absurd (let first = ap (λ (p : List ℕ). get_or p 0 0) same in omega arith)
not_stage (a ∷ []) rest same = absurd (let second = ap (λ (p : List ℕ). get_or p 1 0) same in omega arith)
not_stage (a ∷ b ∷ []) rest same = absurd (let third = ap (λ (p : List ℕ). get_or p 2 0) same in omega arith)
not_stage (a ∷ b ∷ c ∷ []) rest same = absurd (let fifth = ap (λ (p : List ℕ). get_or p 4 0) same in omega arith)
not_stage (a ∷ b ∷ c ∷ d ∷ more) rest same =
    absurd (omega (arith, ap (λ (p : List ℕ). length p) same, length-append (more ++ codes "/etc/systemd/system") (slash ∷ rest), length-append more (codes "/etc/systemd/system")))

-- what stands in the folder of units is listed
pub is_among : (system rest : List ℕ) → is_listed (unit_folder system) (path_of system rest) ≡ true
is_among system rest = listed_below (unit_folder system) rest (not_stage system rest)

module _ (leaves : Leaves) (system unit : List ℕ) (named : IsUnitName unit) where
  joined : path_of system [] ++ unit ≡ path_of system unit
  joined = append_assoc (unit_folder system) (slash ∷ []) unit

  tested : (path : List ℕ) → is_file unit (place_after (path_of system []) path) ≡ eq_by_cmp bytes_cmp (path_of system unit) path
  tested path = same_test _ _
      (λ is. name_from (path_of system unit) path (sym (file_path (path_of system []) path unit is ∙ joined)))
      (λ is. subst (λ p. is_file unit (place_after (path_of system []) p) ≡ true) (joined ∙ name_exact (path_of system unit) path is) (file_there (path_of system []) unit named))

  listed_so : (path : List ℕ) → is_file unit (place_after (path_of system []) path) ≡ true → is_listed (unit_folder system) path ≡ true
  listed_so path is = subst (λ p. is_listed (unit_folder system) p ≡ true) (sym (file_path (path_of system []) path unit is ∙ joined)) (is_among system unit)

  -- the unit's file is among the listed paths exactly where a leaf stands there
  pub among : list_any (λ path. is_file unit (place_after (path_of system []) path)) (paths_of leaves system) ≡ is_some (get leaves (path_of system unit))
  among =
      any-filter_same (λ path. is_file unit (place_after (path_of system []) path)) (is_listed (unit_folder system)) true listed_so (keys leaves)
      ∙ (λ i. list_any (λ path. tested path i) (keys leaves))
      ∙ sym (contains_key-keys leaves (path_of system unit))

  file_by : (o : Option LeafKind) → cond (is_some o) (option_map part_of (leaf_content leaves o)) None ≡ option_map part_of (leaf_content leaves o)
  file_by None = refl
  file_by (Some leaf) = refl

  pub file_is : cond (list_any (λ path. is_file unit (place_after (path_of system []) path)) (paths_of leaves system)) (option_map part_of (content_of leaves (path_of system [] ++ unit))) None
      ≡ option_map part_of (file_of leaves system unit)
  file_is =
      ap (λ b. cond b (option_map part_of (content_of leaves (path_of system [] ++ unit))) None) among
      ∙ ap (λ p. cond (is_some (get leaves (path_of system unit))) (option_map part_of (content_of leaves p)) None) joined
      ∙ file_by (get leaves (path_of system unit))

pub inner_at : (o : Option UnitFiles) (name : List ℕ) →
    lookup (is_at (bytes_cmp name)) (option_map_or (λ (files : UnitFiles). files.drop_ins.entries) o []) ≡ option_and_then (λ (files : UnitFiles). Rattle.std.specs.BTreeMap.get bytes_cmp files.drop_ins name) o
inner_at None name = refl
inner_at (Some files) name = refl

-- no line makes a unit want another
pub none_wanted : (unit : List ℕ) → wanted_by_lines [] unit ≡ []
none_wanted unit = by (is_name (codes "local-fs.target") unit) (is_name (codes "swap.target") unit)
  where
    by : (a b : Bool) → ◌≡◌ {A = List (List ℕ)} (cond a [] (cond b [] [])) []
    by true b = refl
    by false true = refl
    by false false = refl

-- what is read at all listed paths is all
pub files_all : (leaves : Leaves) (system front : List ℕ) (paths : List (List ℕ)) (found : FoundUnits) → front ≡ path_of system [] → paths ≡ paths_of leaves system →
    AreFilesAt leaves front paths found → AreFilesOf leaves system [] found
files_all leaves system front paths found is_front are_paths read =
    let all : AreFilesAt leaves (path_of system []) (paths_of leaves system) found =
    subst (λ ps. AreFilesAt leaves (path_of system []) ps found) are_paths (subst (λ f. AreFilesAt leaves f paths found) is_front read) in
    record {
      file = λ unit named. all.file unit ∙ file_is leaves system unit named;
      drop_ins = λ unit named.
          same_in_name_order part_of (option_map_or (λ (files : UnitFiles). files.drop_ins.entries) (files_in found unit) [])
          (flat_map (λ path. drop_in_at unit (place_after (path_of system []) path) (content_of leaves path)) (paths_of leaves system))
          (λ name. inner_at (files_in found unit) name ∙ all.drop_in unit name);
      line = λ unit named. all.line unit;
      wants = λ unit named. all.wants unit ∙ sym (append-nil (folder_wants leaves system unit)) ∙ ap (λ names. folder_wants leaves system unit ++ names) (sym (none_wanted unit));
    }
