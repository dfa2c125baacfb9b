-- How a switch leaves the units: NixOS manual, "What happens during a system switch?".
use Rattle.std.specs.Prelude.{◌≡◌, ◌++◌, Bool, List, map}
use Rattle.std.specs.List.{flat_map}
use Rattle.host_trait.specs.declared.entry.Entry.{Entry}
use Rattle.host_trait.specs.declared.unit_state.State.{State}
use Rattle.host_trait.specs.States.{state_of}
use Rattle.host_trait.specs.World.{WorldState}
use Rattle.owed_plan.specs.declared.duty.Duty.{Duty}
use Rattle.owed_plan.specs.declared.owed.Owed.{Owed}
use Rattle.owed_plan.specs.FinalStates.{final_state}
use Rattle.owed_plan.specs.Calls.{give_order, listed_calls, stop_calls}
use Rattle.switch_names.specs.Names.{Name}
use Rattle.unit_stage.specs.Acts.{entry_of}
use Rattle.unit_stage.specs.Plan.{IsOwedBy}
use Rattle.unit_stage.specs.System.{definitions_of}

-- the entries of the stops under the old definitions, and then those of other calls under the new ones
abbrev pub entries_by : Name → Owed → WorldState → List Duty → List Entry
entries_by system owed w calls = map (entry_of w.manager.loaded) (stop_calls owed) ++ map (entry_of (definitions_of system)) calls

-- what a switch enters in the journal: the stops, and the calls of each list, the starts in this order
abbrev pub entries_of : Name → Owed → List Name → WorldState → List Entry
entries_of system owed order w = entries_by system owed w (flat_map (listed_calls owed order (state_of w.manager.states)) give_order)

-- the state that a switch leaves a unit in
abbrev pub state_after : Name → Owed → WorldState → Name → State
state_after system owed w unit = final_state owed (definitions_of system) w.manager.bad (state_of w.manager.states) unit

-- these are the states that a switch leaves the units in
abbrev pub AreEndStates : Bool → Name → WorldState → (Name → State) → Type 0
AreEndStates start_up system w states = (owed : Owed) × IsOwedBy start_up system w owed × ((unit : Name) → states unit ≡ state_after system owed w unit)

-- the manager that a switch leaves: each unit in its state, the definitions loaded, and all that was owed entered
pub record IsBrought (system : Name) (owed : Owed) (order : List Name) (w v : WorldState) : Type 0 where
  pub states : (unit : Name) → state_of v.manager.states unit ≡ state_after system owed w unit
  pub loaded : v.manager.loaded ≡ definitions_of system
  pub bad : v.manager.bad ≡ w.manager.bad
  pub journal : v.manager.journal ≡ w.manager.journal ++ entries_of system owed order w
