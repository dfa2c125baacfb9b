-- The units of a system as they are kept: in byte order, with what each wants.
use Rattle.std.specs.Prelude.{◌≡◌, ℕ, ◌&&◌, ◌||◌, List, [], ◌∷◌, true, Option, None, map, filter, option_map, option_and_then, is_some}
use Rattle.std.specs.List.{find}
use Rattle.std.specs.List.Sorted.{IsStrictlySortedBy}
use Rattle.std.specs.Option.{option_map_or, option_or}
use Rattle.switch_names.specs.UnitName.{IsUnitName}
use Rattle.host_trait.specs.World.{Leaves, bytes_cmp}
use Rattle.unit_text.specs.declared.assignment.Assignment.{Assignment}
use Rattle.unit_defs.specs.declared.part.FilePart.{FilePart}
use Rattle.unit_defs.specs.declared.place.UnitPlace.{UnitPlace}
use Rattle.unit_defs.specs.declared.place.UnitPlace.TheVariants.{File, DropIn, Want}
use Rattle.unit_defs.specs.declared.unit.Unit.{Unit}
use Rattle.unit_defs.specs.declared.unit.Wants.{Wants}
use Rattle.switch_names.specs.Names.{Name, has, is_name}
use Rattle.unit_defs.specs.Units.{can_be_wanted, file_text, find_text, own_part, own_text, text_of, wanted, wanted_of, wants_of}

-- the unit of this name
abbrev pub unit_in : List Unit → List ℕ → Option Unit
unit_in units name = find (λ unit. is_name name unit.name) units

-- what a unit has of its own, by its files or the fstab
abbrev pub part_in : List Unit → List ℕ → Option FilePart
part_in units name = option_and_then (λ unit. unit.part) (unit_in units name)

-- the text that a unit has of its own
abbrev pub own_in : List Unit → List ℕ → Option (List Assignment)
own_in units name = option_map (λ part. part.text) (part_in units name)

-- the text that the unit whose file stands at a place has of its own
abbrev pub own_at : List Unit → UnitPlace → Option (List Assignment)
own_at units (File unit) = own_in units unit
own_at units (DropIn unit name) = None
own_at units (Want unit name) = None

-- the names in a unit's folders of units that it wants, and those that the fstab makes it want
abbrev pub names_in : List Unit → List ℕ → List (List ℕ)
names_in units name = option_map_or (λ unit. unit.wants) (unit_in units name) []

-- the text of a unit
abbrev pub found_in : List Unit → List ℕ → Option (List Assignment)
found_in units name = find_text (own_in units) name

-- the units that a unit wants
abbrev pub wanted_in : List Unit → List ℕ → List (List ℕ)
wanted_in units name = wanted (own_in units) (names_in units name) (found_in units name)

-- what a unit wants in all, and what by its own text alone
abbrev pub wants_for : List Unit → Unit → Wants
wants_for units unit = record {
  whole = wanted (own_in units) unit.wants (found_in units unit.name);
  by_text = wanted (own_in units) [] (option_map (λ part. part.text) unit.part);
}

-- the names of the units that have a text of their own, in byte order
pub record AreNamesOf (units : List Unit) (names : List (List ℕ)) : Type 0 where
  pub sorted : IsStrictlySortedBy bytes_cmp names
  pub exact : (name : List ℕ) → has names name ≡ is_some (own_in units name)
  pub named : (name : List ℕ) → has names name ≡ true → IsUnitName name

-- each unit once, in byte order
abbrev pub AreSorted : List Unit → Type 0
AreSorted units = IsStrictlySortedBy bytes_cmp (map (λ unit. unit.name) units)

-- these are what the files and folders of a system's units and its fstab say
pub record AreUnitsOf (leaves : Leaves) (system : List ℕ) (units : List Unit) : Type 0 where
  pub part : (name : List ℕ) → IsUnitName name → part_in units name ≡ own_part leaves system name
  pub wants : (name : List ℕ) → IsUnitName name → names_in units name ≡ wants_of leaves system name

-- each of these units has as its own text what its files alone say
abbrev pub HaveFileTexts : Leaves → List ℕ → List Unit → Type 0
HaveFileTexts leaves system units = (name : List ℕ) → IsUnitName name → own_in units name ≡ file_text leaves system name

-- to a set are added those of these names that can be wanted
abbrev pub AddsWanted : List Unit → List Name → List Name → List Name → Type 0
AddsWanted units names old new = (unit : Name) → has new unit ≡ (has old unit || has (filter (can_be_wanted (own_in units)) names) unit)

-- to a set is added this name, where it can be wanted
abbrev pub AddsName : List Unit → Name → List Name → List Name → Type 0
AddsName units name old new = (unit : Name) → has new unit ≡ (has old unit || (is_name unit name && can_be_wanted (own_in units) name))

-- the units are sorted, and what is kept beside them is theirs
pub record IsDefs (names : List (List ℕ)) (units : List Unit) (wants : List Wants) (nothing : List (List ℕ)) : Type 0 where
  pub in_order : AreSorted units
  pub their_names : AreNamesOf units names
  pub their_wants : wants ≡ map (wants_for units) units
  pub is_empty : nothing ≡ []

-- the first of these units with a faulty file, and the line of its first fault
abbrev pub first_faulty : List Unit → Option (List ℕ × ℕ)
first_faulty [] = None
first_faulty (unit ∷ units) = option_or (option_map (λ line. (unit.name, line)) (option_and_then (λ part. part.fault) unit.part)) (first_faulty units)

-- what is kept of a system is what its leaves say
pub record AreDefsOf (leaves : Leaves) (system : List ℕ) (units : List Unit) : Type 0 where
  pub own : (name : List ℕ) → IsUnitName name → own_in units name ≡ own_text leaves system name
  pub found : (name : List ℕ) → IsUnitName name → found_in units name ≡ text_of leaves system name
  pub wanted : (name : List ℕ) → IsUnitName name → wanted_in units name ≡ wanted_of leaves system name
