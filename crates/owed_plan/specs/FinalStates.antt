-- The states of the units after all that a switch owes them: systemctl(1), "Unit Commands".
use Rattle.std.specs.Prelude.{◌&&◌, ℕ, List, not, if◌then◌else◌}
use Rattle.host_trait.specs.declared.entry.Bad.{Bad}
use Rattle.host_trait.specs.declared.unit_state.State.{State}
use Rattle.host_trait.specs.declared.unit_state.State.TheVariants.{Active, Inactive, Failed}
use Rattle.host_trait.specs.Manager.{is_active, is_bad}
use Rattle.owed_plan.specs.declared.owed.Owed.{Owed}
use Rattle.owed_plan.specs.Lists.{is_listed, is_renewed}
use Rattle.switch_names.specs.Names.{Name, has}

-- what a start under these definitions brings a unit to
abbrev pub brought_by : List ℕ → List Bad → Name → State
brought_by loaded bad unit = if is_bad bad loaded unit then Failed else Active

-- the state of a unit after all that is owed under these definitions: the first row that fits
abbrev pub final_state : Owed → List ℕ → List Bad → (Name → State) → Name → State
final_state owed loaded bad states unit =
    if is_renewed owed.lists unit then brought_by loaded bad unit
    else if is_listed owed.lists unit && is_active (states unit) && not (has owed.stops unit) then Active
    else if is_listed owed.lists unit then brought_by loaded bad unit
    else if has owed.stops unit then Inactive
    else states unit
