-- What stands in the folder of a system's units: systemd.unit(5), "Description".
use Rattle.std.specs.Prelude.{◌≡◌, ◌⊎◌, ◌↔◌, ℕ, ◌&&◌, ◌==◌, not, Bool, false, true, List, [], ◌∷◌, ◌++◌, length, codes, Option, None, Some, option_and_then, if◌then◌else◌}
use Rattle.std.specs.List.{list_any, before_first, after_first}
use Rattle.std.specs.Option.{option_or}
use Rattle.switch_names.specs.Path.{slash, is_slash}
use Rattle.switch_names.specs.UnitName.{IsUnitName, is_unit}
use Rattle.switch_names.specs.Texts.{after_front, before_end}
use Rattle.unit_defs.specs.declared.place.UnitPlace.{UnitPlace}
use Rattle.unit_defs.specs.declared.place.UnitPlace.TheVariants.{File, DropIn, Want}

-- a unit stands there that another one wants
abbrev pub is_want : UnitPlace → Bool
is_want (Want unit name) = true
is_want place = false

-- the folder of a system's units
unfoldable pub unit_folder : List ℕ → List ℕ
unit_folder system = system ++ codes "/etc/systemd/system"

-- the path of what has this name in the folder of a system's units
abbrev pub path_of : List ℕ → List ℕ → List ℕ
path_of system name = unit_folder system ++ slash ∷ name

-- the name of a drop-in isn't empty and has no slash
abbrev pub is_drop_in_name : List ℕ → Bool
is_drop_in_name name = not (length name == 0) && not (list_any is_slash name)

-- a drop-in by its unit and its name, where both are names
abbrev pub drop_in_of : Option (List ℕ) → Option (List ℕ) → Option UnitPlace
drop_in_of (Some unit) (Some name) = if is_drop_in_name name && is_unit unit then Some (DropIn unit name) else None
drop_in_of unit name = None

-- a drop-in of a unit stands in the folder `<unit>.d` as `<name>.conf`
abbrev pub drop_in : List ℕ → List ℕ → Option UnitPlace
drop_in folder name = drop_in_of (before_end (codes ".d") folder) (before_end (codes ".conf") name)

-- a wanted unit by the unit that wants it, where both are names
abbrev pub want_of : Option (List ℕ) → List ℕ → Option UnitPlace
want_of None name = None
want_of (Some unit) name = if is_unit unit && is_unit name then Some (Want unit name) else None

-- a unit that another one wants stands in the folder `<unit>.wants` or `<unit>.requires`
abbrev pub want : List ℕ → List ℕ → List ℕ → Option UnitPlace
want end folder name = want_of (before_end end folder) name

-- what a leaf of this name in a folder of this name is
abbrev pub place_below : List ℕ → List ℕ → Option UnitPlace
place_below folder name = option_or (drop_in folder name) (option_or (want (codes ".wants") folder name) (want (codes ".requires") folder name))

-- what a leaf in the folder of units is: a unit's file, or what stands in the folders of a unit
abbrev pub place_in : List ℕ → Option UnitPlace
place_in rest =
    if is_unit rest then Some (File rest)
    else if list_any is_slash rest then place_below (before_first is_slash rest) (after_first is_slash rest)
    else None

-- what a leaf at a path with this front is
abbrev pub place_after : List ℕ → List ℕ → Option UnitPlace
place_after front path = option_and_then place_in (after_front front path)

-- what a leaf at this path is
abbrev pub place_of : List ℕ → List ℕ → Option UnitPlace
place_of system path = place_after (path_of system []) path

-- at this path stands this: `<unit>`, `<unit>.d/<name>.conf`, `<unit>.wants/<name>` or `<unit>.requires/<name>` in the folder of units
abbrev pub StandsAt : List ℕ → List ℕ → UnitPlace → Type 0
StandsAt system path (File unit) = IsUnitName unit × (path ≡ path_of system unit)
StandsAt system path (DropIn unit name) = IsUnitName unit × (is_drop_in_name name ≡ true) × (path ≡ path_of system (unit ++ (codes ".d/" ++ (name ++ codes ".conf"))))
StandsAt system path (Want unit name) =
    IsUnitName unit × IsUnitName name
    × ((path ≡ path_of system (unit ++ (codes ".wants/" ++ name))) ⊎ (path ≡ path_of system (unit ++ (codes ".requires/" ++ name))))

-- what stands at a path is told by its names, and nothing else is
abbrev pub ArePlacesNamed : Type 0
ArePlacesNamed = (system path : List ℕ) (place : UnitPlace) → (place_of system path ≡ Some place) ↔ StandsAt system path place
