-- What was found of the units of a system by name.
use Rattle.std.specs.Prelude.{◌≡◌, ℕ, ◌&&◌, Bool, false, List, [], ◌++◌, Option, None, Some, map, option_map, option_and_then, if◌then◌else◌}
use Rattle.std.specs.BTreeMap.{get}
use Rattle.std.specs.FinMap.{find, from_entries}
use Rattle.std.specs.FinMap as finite
use Rattle.std.specs.List.{flat_map, list_any}
use Rattle.std.specs.Option.{option_map_or, option_or}
use Rattle.switch_names.specs.UnitName.{IsUnitName}
use Rattle.host_trait.specs.World.{Leaves, bytes_cmp, content_of}
use Rattle.unit_text.specs.declared.assignment.Assignment.{Assignment}
use Rattle.fstab_mounts.specs.declared.fs_unit.FsUnit.{FsUnit}
use Rattle.unit_defs.specs.declared.reading.found.FoundUnits.{FoundUnits}
use Rattle.unit_defs.specs.declared.reading.found.UnitFiles.{UnitFiles}
use Rattle.unit_defs.specs.declared.part.FilePart.{FilePart}
use Rattle.unit_defs.specs.declared.place.UnitPlace.{UnitPlace}
use Rattle.unit_defs.specs.declared.place.UnitPlace.TheVariants.{File, DropIn}
use Rattle.unit_defs.specs.declared.unit.Unit.{Unit}
use Rattle.unit_defs.specs.Files.{drop_in_at, drop_ins_of, file_of, folder_wants, own_files, want_at}
use Rattle.unit_defs.specs.Fstab.{line_text, wanted_by_lines}
use Rattle.unit_defs.specs.Part.{line_part, merged, part_of}
use Rattle.unit_defs.specs.Place.{is_want, place_after}
use Rattle.switch_names.specs.Names.{is_name}

-- what was found of a unit
abbrev pub files_in : FoundUnits → List ℕ → Option UnitFiles
files_in found unit = get bytes_cmp found.units unit

-- its file
abbrev pub file_in : FoundUnits → List ℕ → Option FilePart
file_in found unit = option_and_then (λ files. files.file) (files_in found unit)

-- its drop-in of this name
abbrev pub drop_in_in : FoundUnits → List ℕ → List ℕ → Option FilePart
drop_in_in found unit name = option_and_then (λ files. get bytes_cmp files.drop_ins name) (files_in found unit)

-- drop-ins in the order of their names
abbrev pub in_name_order : List (List ℕ × FilePart) → List FilePart
in_name_order drop_ins = finite.values (from_entries {R = bytes_cmp} drop_ins)

-- its drop-ins in the order of their names
abbrev pub drop_ins_in : FoundUnits → List ℕ → List FilePart
drop_ins_in found unit = in_name_order (option_map_or (λ files. files.drop_ins.entries) (files_in found unit) [])

-- the text of its line in the fstab
abbrev pub line_in : FoundUnits → List ℕ → Option (List Assignment)
line_in found unit = option_and_then (λ files. files.line) (files_in found unit)

-- the names in its folders of units that it wants, and those that the fstab makes it want
abbrev pub wants_in : FoundUnits → List ℕ → List (List ℕ)
wants_in found unit = option_map_or (λ files. files.wants) (files_in found unit) []

-- a unit's file after a place was read
abbrev pub file_with : Option UnitPlace → Option FilePart → List ℕ → Option FilePart → Option FilePart
file_with (Some (File other)) part unit was = if is_name other unit then part else was
file_with place part unit was = was

-- a unit's drop-in after a place was read
abbrev pub drop_in_with : Option UnitPlace → Option FilePart → List ℕ → List ℕ → Option FilePart → Option FilePart
drop_in_with (Some (DropIn other other_name)) (Some part) unit name was =
    option_or was (if is_name other unit && is_name other_name name then Some part else None)
drop_in_with place part unit name was = was

-- a place was read, at which this part stands
pub record Takes (place : Option UnitPlace) (part : Option FilePart) (old new : FoundUnits) : Type 0 where
  pub file : (unit : List ℕ) → file_in new unit ≡ file_with place part unit (file_in old unit)
  pub drop_in : (unit name : List ℕ) → drop_in_in new unit name ≡ drop_in_with place part unit name (drop_in_in old unit name)
  pub line : (unit : List ℕ) → line_in new unit ≡ line_in old unit
  pub wants : (unit : List ℕ) → wants_in new unit ≡ wants_in old unit ++ want_at unit place

-- a unit has this text as its line where it had none before, and these names are joined to those that it wants
pub record Joins (text_of : List ℕ → Option (List Assignment)) (wanted_by : List ℕ → List (List ℕ)) (old new : FoundUnits) : Type 0 where
  pub file : (unit : List ℕ) → file_in new unit ≡ file_in old unit
  pub drop_in : (unit name : List ℕ) → drop_in_in new unit name ≡ drop_in_in old unit name
  pub line : (unit : List ℕ) → line_in new unit ≡ option_or (line_in old unit) (text_of unit)
  pub wants : (unit : List ℕ) → wants_in new unit ≡ wants_in old unit ++ wanted_by unit

-- the units of these lines are joined, with what the lines make units want
abbrev pub JoinsLines : List FsUnit → FoundUnits → FoundUnits → Type 0
JoinsLines lines old new = Joins (line_text lines) (wanted_by_lines lines) old new

-- what the leaf at a path says, where this place is no wanted unit
abbrev pub part_at : Leaves → List ℕ → UnitPlace → Option FilePart
part_at leaves path place = if is_want place then None else option_map part_of (content_of leaves path)

-- what stands at a path was read
abbrev pub TakesPath : Leaves → List ℕ → List ℕ → FoundUnits → FoundUnits → Type 0
TakesPath leaves front path old new = Takes (place_after front path) (option_map part_of (content_of leaves path)) old new

-- a leaf is the file of this unit
abbrev pub is_file : List ℕ → Option UnitPlace → Bool
is_file unit (Some (File other)) = is_name other unit
is_file unit place = false

-- what these paths say was found
pub record AreFilesAt (leaves : Leaves) (front : List ℕ) (paths : List (List ℕ)) (found : FoundUnits) : Type 0 where
  pub file : (unit : List ℕ) → file_in found unit
      ≡ (if list_any (λ path. is_file unit (place_after front path)) paths then option_map part_of (content_of leaves (front ++ unit)) else None)
  pub drop_in : (unit name : List ℕ) → drop_in_in found unit name
      ≡ option_map part_of (find bytes_cmp name (flat_map (λ path. drop_in_at unit (place_after front path) (content_of leaves path)) paths))
  pub line : (unit : List ℕ) → line_in found unit ≡ None
  pub wants : (unit : List ℕ) → wants_in found unit ≡ flat_map (λ path. want_at unit (place_after front path)) paths

-- all that the folder of units and these lines of an fstab say was found
pub record AreFilesOf (leaves : Leaves) (system : List ℕ) (lines : List FsUnit) (found : FoundUnits) : Type 0 where
  pub file : (unit : List ℕ) → IsUnitName unit → file_in found unit ≡ option_map part_of (file_of leaves system unit)
  pub drop_ins : (unit : List ℕ) → IsUnitName unit → drop_ins_in found unit ≡ map part_of (drop_ins_of leaves system unit)
  pub line : (unit : List ℕ) → IsUnitName unit → line_in found unit ≡ line_text lines unit
  pub wants : (unit : List ℕ) → IsUnitName unit → wants_in found unit ≡ folder_wants leaves system unit ++ wanted_by_lines lines unit

-- what the files of a unit say that were found
abbrev pub file_part_in : FoundUnits → List ℕ → Option FilePart
file_part_in found unit = option_map merged (own_files (file_in found) (drop_ins_in found) unit)

-- what was found of a unit's own: what its files say, or else its line
abbrev pub own_part_in : FoundUnits → List ℕ → Option FilePart
own_part_in found unit = option_or (file_part_in found unit) (option_map line_part (line_in found unit))

-- what was found of a unit
abbrev pub unit_of : FoundUnits → List ℕ → Unit
unit_of found unit = record { name = unit; part = own_part_in found unit; wants = wants_in found unit }
