-- What a command leaves: NixOS manual, "What happens during a system switch?".
use Rattle.std.specs.Prelude.{◌≡◌, ◌≢◌, ◌⊎◌, ◌++◌, List, [], Option, None, Some, IsSome, Bool, true, false, ◌&&◌, is_some}
use Rattle.std.specs.FinMap.{get}
use Rattle.std.specs.Option.{IsSomeAnd}
use Rattle.host_trait.specs.declared.entry.Entry.{Entry}
use Rattle.host_trait.specs.declared.unit_state.State.{State}
use Rattle.host_trait.specs.declared.unit_state.State.TheVariants.{Failed}
use Rattle.host_trait.specs.declared.unit_state.UnitState.{UnitState}
use Rattle.host_trait.specs.States.{UnitStates, state_of}
use Rattle.host_trait.specs.World.{WorldState, stage}
use Rattle.owed_plan.specs.declared.owed.Owed.{Owed}
use Rattle.switch_engine.specs.declared.command.Command.{Command}
use Rattle.switch_engine.specs.Commands.{brought_to, row}
use Rattle.switch_engine.specs.Rows.{final}
use Rattle.switch_names.specs.Names.{Name}
use Rattle.unit_defs.specs.declared.unit.Unit.{Unit}
use Rattle.unit_defs.specs.Defs.{found_in}
use Rattle.unit_defs.specs.Units.{text_of}
use Rattle.unit_stage.specs.End.{AreEndStates, entries_of, state_after}
use Rattle.unit_stage.specs.Order.{IsOrderedAt}
use Rattle.unit_stage.specs.Plan.{IsOwedBy}
use Rattle.unit_stage.specs.System.{definitions_of}

-- the states of the units and what is loaded, after a switch of them to a system or without one
abbrev pub AreFinalUnits : Bool → Option Name → WorldState → WorldState → Type 0
AreFinalUnits start_up None w v = (v.manager.states ≡ w.manager.states) × (v.manager.loaded ≡ w.manager.loaded)
AreFinalUnits start_up (Some system) w v = AreEndStates start_up system w (state_of v.manager.states) × (v.manager.loaded ≡ definitions_of system)

-- the world that a command leaves: each leaf but the stage's, the states of the units, and what is loaded
pub record IsFinalOf (command : Command) (w v : WorldState) : Type 0 where
  pub leaves : (q : Name) → q ≢ stage → get v.leaves q ≡ final command w.leaves q
  pub units : AreFinalUnits (row command w.leaves).start_up (brought_to command w.leaves) w v
  pub bad : v.manager.bad ≡ w.manager.bad

-- what a switch of the units to a system enters in the journal, and nothing without one
abbrev pub AreEntries : Bool → Option Name → WorldState → List Entry → Type 0
AreEntries start_up None w entries = entries ≡ []
AreEntries start_up (Some system) w entries = (owed : Owed) × (order : List Name) × IsOwedBy start_up system w owed × IsOrderedAt w.leaves system owed order × (entries ≡ entries_of system owed order w)

-- the world at the end of a command, whose journal has grown by exactly what the command enters
pub record IsEndOf (command : Command) (w v : WorldState) : Type 0 where
  pub final : IsFinalOf command w v
  pub entries : List Entry
  pub are_entered : AreEntries (row command w.leaves).start_up (brought_to command w.leaves) w entries
  pub journal : v.manager.journal ≡ w.manager.journal ++ entries

-- the journal of a world is that of the first one, and then a beginning of what a command enters
pub record HasBegunToEnter (command : Command) (w m : WorldState) : Type 0 where
  pub entries : List Entry
  pub are_entered : AreEntries (row command w.leaves).start_up (brought_to command w.leaves) w entries
  pub made : List Entry
  pub rest : List Entry
  pub in_order : entries ≡ made ++ rest
  pub journal : m.manager.journal ≡ w.manager.journal ++ made

-- the journal of a world is that of the first one, alone or with a beginning of what a command enters
abbrev pub IsEntering : Command → WorldState → WorldState → Type 0
IsEntering command w m = (m.manager.journal ≡ w.manager.journal) ⊎ HasBegunToEnter command w m

-- a switch leaves a unit failed that the system defines
pub record IsLeftFailed (system : Name) (owed : Owed) (w : WorldState) (unit : Name) : Type 0 where
  pub failed : state_after system owed w unit ≡ Failed
  pub defined : IsSome (text_of w.leaves system unit)

-- a switch of the units to a system leaves one of them failed
abbrev pub LeavesFailedAt : Bool → Option Name → WorldState → Type 0
LeavesFailedAt start_up to w = IsSomeAnd to (λ system. (owed : Owed) × IsOwedBy start_up system w owed × ((unit : Name) × IsLeftFailed system owed w unit))

-- a command leaves a unit failed that its system defines
abbrev pub LeavesFailed : Command → WorldState → Type 0
LeavesFailed command w = LeavesFailedAt (row command w.leaves).start_up (brought_to command w.leaves) w

-- a unit that the system defines has failed
abbrev pub HasFailed : List Unit → UnitStates → Type 0
HasFailed units states = (unit : Name) × (state_of states unit ≡ Failed) × IsSome (found_in units unit)

-- whether a state is that of a unit that has failed
abbrev pub is_failed : State → Bool
is_failed Failed = true
is_failed state = false

-- whether this is the state of a unit that has failed and that the system defines
abbrev pub is_failed_of : List Unit → UnitState → Bool
is_failed_of units one = is_failed one.state && is_some (found_in units one.unit)
