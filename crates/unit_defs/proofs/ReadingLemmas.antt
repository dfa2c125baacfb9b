-- What is read of the folder of units, one path after the other.
use Rattle.std.proofs.Common.{◌≡◌, ℕ, ◌+◌, ◌<◌, ◌||◌, ◌&&◌, Bool, true, false, cond, List, [], ◌∷◌, ◌++◌, length, take, get_or, Option, None, Some, option_map, option_and_then, refl, sym, ap, subst, ◌∙◌}
use Rattle.std.specs.BTreeMap.{is_at}
use Rattle.std.specs.FinMap.{find, get}
use Rattle.std.specs.List.{flat_map, list_any}
use Rattle.std.specs.Map.{lookup}
use Rattle.std.specs.Option.{option_map_or, option_or}
use Rattle.std.proofs.lemmas.List.{append-nil, take_more}
use Rattle.std.proofs.lemmas.List.Concat.{flat_map-append}
use Rattle.std.proofs.lemmas.List.Folds.{list_any-append}
use Rattle.host_trait.specs.World.{Leaves, bytes_cmp, content_of}
use Rattle.unit_defs.specs.declared.reading.found.FoundUnits.{FoundUnits}
use Rattle.unit_defs.specs.declared.reading.found.UnitFiles.{UnitFiles}
use Rattle.unit_defs.specs.declared.part.FilePart.{FilePart}
use Rattle.unit_defs.specs.declared.place.UnitPlace.{UnitPlace}
use Rattle.unit_defs.specs.declared.place.UnitPlace.TheVariants.{File, DropIn, Want}
use Rattle.unit_defs.specs.Files.{drop_in_at, want_at}
use Rattle.unit_defs.specs.Found.{AreFilesAt, Takes, TakesPath, part_at, drop_in_in, drop_in_with, file_in, file_with, is_file, wants_in}
use Rattle.unit_defs.specs.Part.{part_of}
use Rattle.unit_defs.specs.Place.{is_want, place_after}
use Rattle.switch_names.specs.Names.{is_name}
use Rattle.unit_defs.proofs.DropInLemmas.{find-append}
use Rattle.switch_names.proofs.Names.{name_turned}
use Rattle.switch_names.proofs.Outcomes.{option_map_or_other, option_or_none}
use Rattle.unit_defs.proofs.PlaceLemmas.{file_path}

-- nothing is read yet
pub files_none : (leaves : Leaves) (front : List ℕ) (found : FoundUnits) → found.units.entries ≡ [] → AreFilesAt leaves front [] found
files_none leaves front found none = record {
  line = λ unit. ap (λ es. option_and_then (λ (files : UnitFiles). files.line) (lookup (is_at (bytes_cmp unit)) es)) none;
  file = λ unit. ap (λ es. option_and_then (λ (files : UnitFiles). files.file) (lookup (is_at (bytes_cmp unit)) es)) none;
  drop_in = λ unit name. ap (λ es. option_and_then (λ (files : UnitFiles). Rattle.std.specs.BTreeMap.get bytes_cmp files.drop_ins name) (lookup (is_at (bytes_cmp unit)) es)) none;
  wants = λ unit. ap (λ es. option_map_or (λ (files : UnitFiles). files.wants) (lookup (is_at (bytes_cmp unit)) es) []) none;
}

file_chosen : (place : Option UnitPlace) (part : Option FilePart) (unit : List ℕ) (was : Option FilePart) → file_with place part unit was ≡ cond (is_file unit place) part was
file_chosen None part unit was = refl
file_chosen (Some (File other)) part unit was = refl
file_chosen (Some (DropIn other name)) part unit was = refl
file_chosen (Some (Want other name)) part unit was = refl

both_chosen : (a b : Bool) (part that : Option FilePart) → (b ≡ true → part ≡ that) → cond b part (cond a that None) ≡ cond (a || (b || false)) that None
both_chosen true true part that same = same refl
both_chosen false true part that same = same refl
both_chosen true false part that same = refl
both_chosen false false part that same = refl

one_drop_in : (b : Bool) (name other_name : List ℕ) (content : List ℕ) →
    option_map part_of (find bytes_cmp name (cond b ((other_name, content) ∷ []) [])) ≡ cond (b && is_name other_name name) (Some (part_of content)) None
one_drop_in true name other_name content = ap (λ c. option_map part_of (cond c (Some content) None)) (name_turned name other_name) ∙ by (is_name other_name name)
  where
    by : (c : Bool) → option_map part_of (cond c (Some content) None) ≡ cond c (Some (part_of content)) None
    by true = refl
    by false = refl
one_drop_in false name other_name content = refl

drop_in_chosen : (place : Option UnitPlace) (content : Option (List ℕ)) (unit name : List ℕ) (was : Option FilePart) →
    drop_in_with place (option_map part_of content) unit name was ≡ option_or was (option_map part_of (find bytes_cmp name (drop_in_at unit place content)))
drop_in_chosen None content unit name was = sym (option_or_none was)
drop_in_chosen (Some (File other)) content unit name was = sym (option_or_none was)
drop_in_chosen (Some (Want other other_name)) content unit name was = sym (option_or_none was)
drop_in_chosen (Some (DropIn other other_name)) None unit name was = sym (option_or_none was)
drop_in_chosen (Some (DropIn other other_name)) (Some content) unit name was = ap (option_or was) (sym (one_drop_in (is_name other unit) name other_name content))

-- nothing stands at a path
pub none_taken : (leaves : Leaves) (front path : List ℕ) (found : FoundUnits) → None ≡ place_after front path → TakesPath leaves front path found found
none_taken leaves front path found none =
    subst (λ p. Takes p (option_map part_of (content_of leaves path)) found found) none
    (record { file = λ unit. refl; drop_in = λ unit name. refl; line = λ unit. refl; wants = λ unit. sym (append-nil (wants_in found unit)) })

-- of a wanted unit any part may be put
put_any : (place : UnitPlace) (part that : Option FilePart) (old new : FoundUnits) → part ≡ cond (is_want place) None that → Takes (Some place) part old new → Takes (Some place) that old new
put_any (File unit) part that old new is takes = subst (λ p. Takes (Some (File unit)) p old new) is takes
put_any (DropIn unit name) part that old new is takes = subst (λ p. Takes (Some (DropIn unit name)) p old new) is takes
put_any (Want unit name) part that old new is takes = record { file = takes.file; drop_in = takes.drop_in; line = takes.line; wants = takes.wants }

-- what was put at the place of a path is what stands at the path
pub path_taken : (leaves : Leaves) (front path : List ℕ) (place : UnitPlace) (part : Option FilePart) (old new : FoundUnits) →
    Some place ≡ place_after front path → part ≡ part_at leaves path place → Takes (Some place) part old new → TakesPath leaves front path old new
path_taken leaves front path place part old new is_place is_part takes =
    subst (λ p. Takes p (option_map part_of (content_of leaves path)) old new) is_place (put_any place part (option_map part_of (content_of leaves path)) old new is_part takes)

-- one path more is read
module _ (leaves : Leaves) (front : List ℕ) (paths : List (List ℕ)) (path : List ℕ) (old new : FoundUnits) (read : AreFilesAt leaves front paths old) (takes : TakesPath leaves front path old new) where
  abbrev place : Option UnitPlace
  place = place_after front path

  file_more : (unit : List ℕ) → file_in new unit
      ≡ cond (list_any (λ p. is_file unit (place_after front p)) (paths ++ path ∷ [])) (option_map part_of (content_of leaves (front ++ unit))) None
  file_more unit =
      takes.file unit
      ∙ file_chosen place (option_map part_of (content_of leaves path)) unit (file_in old unit)
      ∙ ap (cond (is_file unit place) (option_map part_of (content_of leaves path))) (read.file unit)
      ∙ both_chosen (list_any (λ p. is_file unit (place_after front p)) paths) (is_file unit place) (option_map part_of (content_of leaves path)) (option_map part_of (content_of leaves (front ++ unit)))
      (λ is. ap (λ p. option_map part_of (content_of leaves p)) (file_path front path unit is))
      ∙ ap (λ b. cond b (option_map part_of (content_of leaves (front ++ unit))) None) (sym (list_any-append (λ p. is_file unit (place_after front p)) paths (path ∷ [])))

  drop_in_more : (unit name : List ℕ) → drop_in_in new unit name
      ≡ option_map part_of (find bytes_cmp name (flat_map (λ p. drop_in_at unit (place_after front p) (content_of leaves p)) (paths ++ path ∷ [])))
  drop_in_more unit name =
      let of_path : List ℕ → List (List ℕ × List ℕ) = λ p. drop_in_at unit (place_after front p) (content_of leaves p) in
      takes.drop_in unit name
      ∙ drop_in_chosen place (content_of leaves path) unit name (drop_in_in old unit name)
      ∙ ap (λ o. option_or o (option_map part_of (find bytes_cmp name (of_path path)))) (read.drop_in unit name)
      ∙ sym (option_map_or_other part_of (find bytes_cmp name (flat_map of_path paths)) (find bytes_cmp name (of_path path)))
      ∙ ap (option_map part_of) (sym (find-append name (flat_map of_path paths) (of_path path)))
      ∙ ap (λ es. option_map part_of (find bytes_cmp name es))
      (ap (λ es. flat_map of_path paths ++ es) (sym (append-nil (of_path path))) ∙ sym (flat_map-append of_path paths (path ∷ [])))

  wants_more : (unit : List ℕ) → wants_in new unit ≡ flat_map (λ p. want_at unit (place_after front p)) (paths ++ path ∷ [])
  wants_more unit =
      let of_path : List ℕ → List (List ℕ) = λ p. want_at unit (place_after front p) in
      takes.wants unit
      ∙ ap (λ names. names ++ of_path path) (read.wants unit)
      ∙ ap (λ names. flat_map of_path paths ++ names) (sym (append-nil (of_path path)))
      ∙ sym (flat_map-append of_path paths (path ∷ []))

  files_and : AreFilesAt leaves front (paths ++ path ∷ []) new
  files_and = record { file = file_more; drop_in = drop_in_more; line = λ unit. takes.line unit ∙ read.line unit; wants = wants_more }

pub files_more : (leaves : Leaves) (front : List ℕ) (paths : List (List ℕ)) (i : ℕ) (path : List ℕ) (old new : FoundUnits) → i < length paths → path ≡ get_or paths i path →
    AreFilesAt leaves front (take i paths) old → TakesPath leaves front path old new → AreFilesAt leaves front (take (i + 1) paths) new
files_more leaves front paths i path old new within is read takes =
    subst (λ ps. AreFilesAt leaves front ps new) (sym (take_more paths i path within ∙ ap (λ p. take i paths ++ p ∷ []) (sym is)))
    (files_and leaves front (take i paths) path old new read takes)
