-- The units of a system, and those that each wants: systemd.unit(5), "Description" and "[Unit] Section Options".
use Rattle.std.specs.Prelude.{◌≡◌, ℕ, ◌&&◌, ◌==◌, not, Bool, List, [], ◌∷◌, ◌++◌, Option, None, Some, map, filter, codes, option_map, option_and_then, is_some, if◌then◌else◌}
use Rattle.std.specs.FinMap.{from_entries}
use Rattle.std.specs.FinMap as map
use Rattle.std.specs.List.{find, flat_map, slice_split}
use Rattle.std.specs.Option.{option_or}
use Rattle.std.specs.declared.cmp.Ordering.TheVariants.{Less}
use Rattle.switch_names.specs.UnitName.{IsUnitName, is_template, template_of, is_unit}
use Rattle.host_trait.specs.World.{Leaves, bytes_cmp}
use Rattle.unit_text.specs.declared.assignment.Assignment.{Assignment}
use Rattle.unit_text.specs.UnitKey.{key_of}
use Rattle.unit_text.specs.UnitText.{values_of}
use Rattle.unit_defs.specs.declared.part.FilePart.{FilePart}
use Rattle.unit_defs.specs.declared.place.UnitPlace.{UnitPlace}
use Rattle.unit_defs.specs.declared.place.UnitPlace.TheVariants.{File, DropIn, Want}
use Rattle.unit_defs.specs.Files.{drop_ins_of, file_of, folder_wants, own_files, paths_of}
use Rattle.unit_defs.specs.Fstab.{fstab_of, line_text, wanted_by_lines}
use Rattle.unit_defs.specs.Part.{line_part, merged, part_of}
use Rattle.unit_defs.specs.Place.{place_of}
use Rattle.switch_names.specs.Names.{Name}

-- these names in byte order, each once
abbrev pub in_order : List (List ℕ) → List (List ℕ)
in_order names = map.keys (from_entries {X = Unit {0}} {R = bytes_cmp} (map (λ name. (name, tt)) names))

-- the texts between the spaces and tabs of a text
abbrev pub words_of : List ℕ → List (List ℕ)
words_of text = flat_map (slice_split (λ byte. byte == 9)) (slice_split (λ byte. byte == 32) text)

-- the words of what a unit's text gives a key of the section `Unit`
abbrev pub words_at : List ℕ → List Assignment → List (List ℕ)
words_at key text = flat_map words_of (values_of text (key_of (codes "Unit") key))

-- the words of `Wants` and `Requires` of a text
abbrev pub words_in : Option (List Assignment) → List (List ℕ)
words_in None = []
words_in (Some text) = words_at (codes "Wants") text ++ words_at (codes "Requires") text

-- the text of a unit by the texts that units have of their own: its own, or else its template's
abbrev pub find_text : (List ℕ → Option (List Assignment)) → List ℕ → Option (List Assignment)
find_text own unit = if is_unit unit then option_or (own unit) (option_and_then own (template_of unit)) else None

-- the unit is defined and no template
abbrev pub can_be_wanted : (List ℕ → Option (List Assignment)) → List ℕ → Bool
can_be_wanted own unit = is_some (find_text own unit) && not (is_template unit)

-- what a unit wants, by its text and the names in its folders of units that it wants
abbrev pub wanted : (List ℕ → Option (List Assignment)) → List (List ℕ) → Option (List Assignment) → List (List ℕ)
wanted own names text = in_order (filter (can_be_wanted own) (names ++ words_in text))

-- what the files of a unit say, where one is its base
abbrev pub file_part : Leaves → List ℕ → List ℕ → Option FilePart
file_part leaves system unit = option_map (λ files. merged (map part_of files)) (own_files (file_of leaves system) (drop_ins_of leaves system) unit)

-- what a unit has of its own: what its files say, or else what its line in the fstab says
abbrev pub own_part : Leaves → List ℕ → List ℕ → Option FilePart
own_part leaves system unit = option_or (file_part leaves system unit) (option_map line_part (line_text (fstab_of leaves system) unit))

-- the text that a unit of a system has of its own
abbrev pub own_text : Leaves → List ℕ → List ℕ → Option (List Assignment)
own_text leaves system unit = option_map (λ part. part.text) (own_part leaves system unit)

-- the text that the files of a unit say, where one is its base
abbrev pub file_text : Leaves → List ℕ → List ℕ → Option (List Assignment)
file_text leaves system unit = option_map (λ part. part.text) (file_part leaves system unit)

-- the line of the first fault in the files of a unit
abbrev pub own_fault : Leaves → List ℕ → List ℕ → Option ℕ
own_fault leaves system unit = option_and_then (λ part. part.fault) (file_part leaves system unit)

-- the text of a unit of a system
abbrev pub text_of : Leaves → List ℕ → List ℕ → Option (List Assignment)
text_of leaves system unit = find_text (own_text leaves system) unit

-- the names in a unit's folders of units that it wants, and those that the fstab makes it want
abbrev pub wants_of : Leaves → List ℕ → List ℕ → List Name
wants_of leaves system unit = folder_wants leaves system unit ++ wanted_by_lines (fstab_of leaves system) unit

-- the units that a unit of a system wants
abbrev pub wanted_of : Leaves → List ℕ → List ℕ → List (List ℕ)
wanted_of leaves system unit = wanted (own_text leaves system) (wants_of leaves system unit) (text_of leaves system unit)

-- the unit to which a file or a drop-in belongs
abbrev pub unit_at : Option UnitPlace → List Name
unit_at None = []
unit_at (Some (File unit)) = unit ∷ []
unit_at (Some (DropIn unit name)) = unit ∷ []
unit_at (Some (Want unit name)) = []

-- the units that have a file or a drop-in, in byte order
abbrev pub units_of : Leaves → List ℕ → List Name
units_of leaves system = in_order (flat_map (λ path. unit_at (place_of system path)) (paths_of leaves system))

-- the line of the first fault in the files of a unit, with its name
abbrev pub named_fault : Leaves → List ℕ → Name → Option (Name × ℕ)
named_fault leaves system unit = option_map (λ line. (unit, line)) (own_fault leaves system unit)

-- the first unit with a faulty file, in byte order, and the line of its first fault
abbrev pub first_fault_of : Leaves → List ℕ → Option (Name × ℕ)
first_fault_of leaves system = option_and_then (named_fault leaves system) (find (λ unit. is_some (own_fault leaves system unit)) (units_of leaves system))

-- this is the first unit with a faulty file, and the line of its first fault
pub record IsFirstFault (leaves : Leaves) (system unit : List ℕ) (line : ℕ) : Type 0 where
  pub named : IsUnitName unit
  pub faulty : own_fault leaves system unit ≡ Some line
  pub earlier : (other : List ℕ) → IsUnitName other → bytes_cmp other unit ≡ Less → own_fault leaves system other ≡ None

-- no unit has a faulty file
abbrev pub HasNoFault : Leaves → List ℕ → Type 0
HasNoFault leaves system = (unit : List ℕ) → IsUnitName unit → own_fault leaves system unit ≡ None
