-- The steps that a switch takes with the units: NixOS manual, "What happens during a system switch?".
use Rattle.std.specs.Prelude.{◌≡◌, ◌⊎◌, ◌∷◌, true, List, [], Some}
use Rattle.std.specs.FinMap.{get}
use Rattle.std.specs.List.{flat_map}
use Rattle.host_trait.specs.declared.leaf.LeafKind.TheVariants.{Link}
use Rattle.host_trait.specs.Change.{IsMoment, definitions_place, finished}
use Rattle.host_trait.specs.Manager.{loading}
use Rattle.host_trait.specs.States.{state_of}
use Rattle.host_trait.specs.World.{IsClear, IsFileAt, Leaves, WorldState, seen, stage, with_leaf, with_manager}
use Rattle.log_text.specs.declared.lists.Which.{Which}
use Rattle.log_text.specs.declared.lists.Which.TheVariants.{Starts}
use Rattle.owed_log.specs.declared.log_write.LogWrite.{LogWrite}
use Rattle.owed_log.specs.Places.{log_place}
use Rattle.owed_log.specs.Writing.{IsRecordMoment, IsWriteFor, clearing, recorded}
use Rattle.owed_plan.specs.declared.duty.Duty.{Duty}
use Rattle.owed_plan.specs.declared.owed.Owed.{Owed}
use Rattle.owed_plan.specs.Calls.{give_order, listed_calls, stop_calls}
use Rattle.switch_names.specs.Names.{Name}
use Rattle.unit_stage.specs.Acts.{CanPerform, IsPerforming, with_calls}
use Rattle.unit_stage.specs.Owned.{owns_units}
use Rattle.unit_stage.specs.System.{current_place, definitions_of, system_leaf}

-- the world in which what is owed is recorded, after the stops
abbrev pub with_stops : LogWrite → List Duty → WorldState → WorldState
with_stops write stops w = with_calls stops (recorded write w)

-- the world in which a system is in use
abbrev pub with_current : Name → WorldState → WorldState
with_current system w = with_leaf current_place (system_leaf system) w

-- the world in which a system is in use and its definitions are loaded
abbrev pub with_loaded : Name → WorldState → WorldState
with_loaded system w = with_manager (loading (definitions_of system) w.manager) (with_current system w)

-- the world after calls, with their list cleared
abbrev pub with_cleared : Which → List Duty → WorldState → WorldState
with_cleared which calls w = finished (clearing which) (with_calls calls w)

-- some of these calls have been made, or all of them and their list is being cleared
abbrev pub IsClearingMoment : Which → List Duty → WorldState → WorldState → Type 0
IsClearingMoment which calls w m = IsPerforming calls w m ⊎ IsMoment (clearing which) (with_calls calls w) m

-- the world after the calls of a list, with it cleared: the log goes with the starts; without calls of another list nothing is
-- done, as nothing of the kind was recorded
abbrev pub with_given : Which → List Duty → WorldState → WorldState
with_given Starts calls w = with_cleared Starts calls w
with_given which [] w = w
with_given which (call ∷ calls) w = with_cleared which (call ∷ calls) w

-- a moment of the calls of a list and of its clearing: without calls of another list than the starts there is none but the beginning
abbrev pub IsListMoment : Which → List Duty → WorldState → WorldState → Type 0
IsListMoment Starts calls w m = IsClearingMoment Starts calls w m
IsListMoment which [] w m = m ≡ w
IsListMoment which (call ∷ calls) w m = IsClearingMoment which (call ∷ calls) w m

-- the log is a file where a list other than the starts has calls, and so is to be cleared
abbrev pub HasLogFor : Which → List Duty → Leaves → Type 0
HasLogFor Starts calls leaves = Unit {0}
HasLogFor which [] leaves = Unit {0}
HasLogFor which (call ∷ calls) leaves = IsFileAt leaves log_place

-- the world after the calls of these lists, in their order
abbrev pub with_all_given : (Which → List Duty) → List Which → WorldState → WorldState
with_all_given calls [] w = w
with_all_given calls (which ∷ order) w = with_all_given calls order (with_given which (calls which) w)

-- the world in which a system is in use, after the calls of all lists
abbrev pub with_brought : Name → (Which → List Duty) → WorldState → WorldState
with_brought system calls w = with_all_given calls give_order (with_loaded system w)

-- up to the last stop: what is owed is being recorded, or it is and some of the stops are made
pub data IsStopStep (write : LogWrite) (stops : List Duty) (w m : WorldState) : Type 0 where
  Recording : IsRecordMoment write w m → IsStopStep write stops w m
  Stopping : IsPerforming stops (recorded write w) m → IsStopStep write stops w m

-- a moment of these calls: one of the first list's, or, once that is given, of the others'
abbrev pub IsGiveMoment : (Which → List Duty) → List Which → WorldState → WorldState → Type 0
IsGiveMoment calls [] w m = m ≡ w
IsGiveMoment calls (which ∷ order) w m = IsListMoment which (calls which) w m ⊎ IsGiveMoment calls order (with_given which (calls which) w) m

-- after the stops: the system comes into use, its definitions are loaded, and what is owed is given
pub data IsBringStep (system : Name) (calls : Which → List Duty) (w m : WorldState) : Type 0 where
  Waiting : m ≡ w → IsBringStep system calls w m
  Linked : m ≡ with_current system w → IsBringStep system calls w m
  Giving : IsGiveMoment calls give_order (with_loaded system w) m → IsBringStep system calls w m

-- but for the stage, a moment is one of the steps up to the last stop
abbrev pub IsStopMoment : LogWrite → List Duty → WorldState → WorldState → Type 0
IsStopMoment write stops w m = (u : WorldState) × IsStopStep write stops w u × (seen m ≡ seen u)

-- but for the stage, a moment is one of the steps after the stops
abbrev pub IsBringMoment : Name → (Which → List Duty) → WorldState → WorldState → Type 0
IsBringMoment system calls w m = (u : WorldState) × IsBringStep system calls w u × (seen m ≡ seen u)

-- two worlds have the same manager, the same log and lists, and the same system in use
pub record AreSameUnits (w m : WorldState) : Type 0 where
  pub leaves : (q : Name) → owns_units q ≡ true → get m.leaves q ≡ get w.leaves q
  pub manager : m.manager ≡ w.manager

-- at a moment of a switch the log, the lists, the system in use and the manager are exactly at one of its steps
pub data IsUnitMoment (system : Name) (owed : Owed) (order : List Name) (w m : WorldState) : Type 0 where
  Stopping : (write : LogWrite) → IsWriteFor w.leaves owed.lists write → (u : WorldState) → IsStopStep write (stop_calls owed) w u → AreSameUnits u m → IsUnitMoment system owed order w m
  Bringing : (write : LogWrite) → IsWriteFor w.leaves owed.lists write → (u : WorldState) →
      IsBringStep system (listed_calls owed order (state_of w.manager.states)) (with_stops write (stop_calls owed) w) u → AreSameUnits u m → IsUnitMoment system owed order w m

-- a system can be brought into use, and its definitions are what will be loaded
pub record CanLoad (system : Name) (w : WorldState) : Type 0 where
  pub stage : IsClear w.leaves stage
  pub current : IsClear w.leaves current_place
  pub defined : get w.leaves definitions_place ≡ Some (Link (definitions_of system))

-- and then these calls can be made, and their lists cleared
pub record CanBring (system : Name) (calls : Which → List Duty) (w : WorldState) : Type 0 where
  pub load : CanLoad system w
  pub log : (which : Which) → HasLogFor which (calls which) w.leaves
  pub can_call : CanPerform (flat_map calls give_order) (loading (definitions_of system) w.manager)

-- but for the stage, the system isn't in use yet, or it is, or its definitions are loaded too
abbrev pub IsLoadMoment : Name → WorldState → WorldState → Type 0
IsLoadMoment system w m = (seen m ≡ seen w) ⊎ (seen m ≡ seen (with_current system w)) ⊎ (seen m ≡ seen (with_loaded system w))
