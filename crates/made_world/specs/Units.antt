-- The units of a made machine.
use Rattle.std.specs.Prelude.{◌==◌, ◌++◌, ◌∷◌, ◌/◌, ◌%◌, ℕ, zero, suc, List, [], codes, if◌then◌else◌}
use Rattle.std.specs.FinMap.{empty}
use Rattle.host_trait.specs.declared.entry.Bad.{Bad}
use Rattle.host_trait.specs.declared.leaf.LeafKind.{LeafKind}
use Rattle.host_trait.specs.declared.unit_state.State.TheVariants.{Active}
use Rattle.host_trait.specs.States.{UnitStates, with_state}
use Rattle.made_world.specs.Draws.{draw_at}
use Rattle.made_world.specs.Putting.{file_in, new_system, old_system}
use Rattle.made_world.specs.UnitTexts.{kind_by, name_of, text_of}
use Rattle.switch_names.specs.Names.{Name}

-- the name of the unit with this number
abbrev pub unit_name : ℕ → Name
unit_name number = name_of (kind_by (number % 10)) number

-- where its file stands below a system
abbrev pub unit_place : ℕ → List ℕ
unit_place number = codes "etc/systemd/system/" ++ unit_name number

-- its text, changed in one way
abbrev pub unit_text : ℕ → ℕ → ℕ → List ℕ
unit_text number draw change = text_of (kind_by (number % 10)) number draw change

-- its file in a system
abbrev pub unit_file : Name → ℕ → ℕ → ℕ → Name × LeafKind
unit_file system number draw change = file_in system (unit_place number) (unit_text number draw change)

-- its files: the old system defines each unit, and the new one each whose change isn't 3
abbrev pub unit_leaves : ℕ → ℕ → List (Name × LeafKind)
unit_leaves number draw =
    let change = draw / 8 % 4 in
    unit_file old_system number draw 0 ∷ (if change == 3 then [] else unit_file new_system number draw change ∷ [])

-- where the definitions of the new system lie
abbrev pub new_definitions : List ℕ
new_definitions = 47 ∷ (new_system ++ codes "/etc")

-- whether it fails when it is started under the new definitions
abbrev pub unit_bad : ℕ → ℕ → List Bad
unit_bad number draw = if draw / 128 % 64 == 0 then record { unit = unit_name number; loaded = new_definitions } ∷ [] else []

-- its state: one in four isn't active
abbrev pub with_unit : ℕ → ℕ → UnitStates → UnitStates
with_unit number draw states = if draw / 32 % 4 == 0 then states else with_state (unit_name number) Active states

-- the files of the first so many units, which take the first draws
abbrev pub units_leaves : ℕ → ℕ → List (Name × LeafKind)
units_leaves seed zero = []
units_leaves seed (suc count) = units_leaves seed count ++ unit_leaves count (draw_at seed (suc count))

-- those of them that fail
abbrev pub units_bad : ℕ → ℕ → List Bad
units_bad seed zero = []
units_bad seed (suc count) = units_bad seed count ++ unit_bad count (draw_at seed (suc count))

-- their states
abbrev pub units_states : ℕ → ℕ → UnitStates
units_states seed zero = empty
units_states seed (suc count) = with_unit count (draw_at seed (suc count)) (units_states seed count)
