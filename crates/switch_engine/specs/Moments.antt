-- What holds at each moment of a command: NixOS manual, "What happens during a system switch?".
use Rattle.std.specs.Prelude.{◌≡◌, ◌≢◌, ◌⊎◌, ◌↔◌, Bool, true, false, List, [], ◌∷◌, Option, None, Some, ℕ}
use Rattle.std.specs.FinMap.{get}
use Rattle.activation_stage.specs.ActivationPart.{IsActivated, IsActivating}
use Rattle.boot_entries.specs.BootDefault.{IsMakingDefault, default_end}
use Rattle.boot_entries.specs.Menu.{IsMenuBetween}
use Rattle.generations.specs.declared.moving.Move.{Move}
use Rattle.generations.specs.declared.moving.Move.TheVariants.{Point, Set}
use Rattle.generations.specs.Goal.{goal_leaf, goal_place}
use Rattle.generations.specs.Places.{Names}
use Rattle.generations.specs.Set.{NamesOldOrNew}
use Rattle.host_trait.specs.States.{state_of}
use Rattle.host_trait.specs.World.{WorldState, seen, stage, with_leaf}
use Rattle.owed_log.specs.declared.log_write.LogWrite.{LogWrite}
use Rattle.owed_log.specs.Writing.{IsWriteFor}
use Rattle.owed_plan.specs.Calls.{listed_calls, stop_calls}
use Rattle.owed_plan.specs.declared.owed.Owed.{Owed}
use Rattle.switch_engine.specs.declared.command.Command.{Command}
use Rattle.switch_engine.specs.Commands.{brought_to, moved_by, new_system, row, set_to}
use Rattle.switch_engine.specs.Final.{IsEndOf, IsEntering}
use Rattle.switch_engine.specs.Owing.{IsOver, IsSteadyFor, IsUnderway}
use Rattle.switch_engine.specs.Presence.{where_some}
use Rattle.switch_engine.specs.Rows.{switched_leaf}
use Rattle.switch_names.specs.Names.{Name}
use Rattle.tree_put.specs.Put.{IsOldOrGone, IsOldOrNew}
use Rattle.unit_stage.specs.End.{IsBrought}
use Rattle.unit_stage.specs.Order.{IsOrderedAt}
use Rattle.unit_stage.specs.Plan.{IsOwedBy}
use Rattle.unit_stage.specs.Steps.{IsBringMoment, IsStopMoment, with_stops}

-- but for the stage, the world in which what is owed is recorded, and units have been stopped
abbrev pub HasStopped : Owed → WorldState → WorldState → Type 0
HasStopped owed w u = (write : LogWrite) × IsWriteFor w.leaves owed.lists write × (seen u ≡ seen (with_stops write (stop_calls owed) w))

-- an activation has come to its end, which is its last moment
pub record HasActivated (system : Name) (u v : WorldState) : Type 0 where
  pub moment : IsActivating system u v
  pub end : IsActivated system u v

-- A moment of a switch of the units is one of three: what is owed is being recorded and units stopped, the accounts are being
-- set and /etc is being made, or the system comes into use and units are reloaded, restarted and, in this order, started.
pub data IsSwitchMoment (system : Name) (owed : Owed) (order : List Name) (w m : WorldState) : Type 0 where
  Stopping : (write : LogWrite) → IsWriteFor w.leaves owed.lists write → IsStopMoment write (stop_calls owed) w m → IsSwitchMoment system owed order w m
  Activating : (u : WorldState) → HasStopped owed w u → IsActivating system u m → IsSwitchMoment system owed order w m
  Bringing : (u v : WorldState) → HasStopped owed w u → HasActivated system u v →
      IsBringMoment system (listed_calls owed order (state_of w.manager.states)) v m → IsSwitchMoment system owed order w m

-- the world that a switch of the units leaves: each place is at its end, and so is each unit
pub record IsSwitched (system : Name) (owed : Owed) (order : List Name) (w v : WorldState) : Type 0 where
  pub leaves : (q : Name) → q ≢ stage → get v.leaves q ≡ switched_leaf system w.leaves q
  pub units : IsBrought system owed order w v

-- a step of recording the goal, where the profile goes back to a generation
abbrev pub IsRecordStep : Option Move → WorldState → WorldState → Type 0
IsRecordStep None w m = seen m ≡ seen w
IsRecordStep (Some Set) w m = seen m ≡ seen w
IsRecordStep (Some (Point n)) w m = IsOldOrNew goal_place (goal_leaf n) w m

-- but for the stage, the world in which the goal is recorded, where the profile goes back
abbrev pub record_world : Option Move → WorldState → WorldState
record_world None w = seen w
record_world (Some Set) w = seen w
record_world (Some (Point n)) w = seen (with_leaf goal_place (goal_leaf n) w)

-- a step of making a system the boot default, where the profile is moved to it: the profile is being moved, or it is moved,
-- and the boot menu is being made
abbrev pub IsDefaultStep : Option Move → Name → WorldState → WorldState → Type 0
IsDefaultStep moves system w m = where_some (seen m ≡ seen w) (λ move. IsMakingDefault move system w m) moves

-- but for the stage, the world in which a system is the boot default, where the profile is moved to it
abbrev pub default_world : Option Move → Name → WorldState → WorldState
default_world None system w = seen w
default_world (Some move) system w = default_end move system w

-- a step of a switch of the units, where they are switched to a system
abbrev pub IsSwitchStep : Bool → Option Name → WorldState → WorldState → Type 0
IsSwitchStep start_up None w m = seen m ≡ seen w
IsSwitchStep start_up (Some system) w m = (owed : Owed) × (order : List Name) × IsOwedBy start_up system w owed × IsOrderedAt w.leaves system owed order × IsSwitchMoment system owed order w m

-- the world that a switch of the units leaves, where they are switched to a system
abbrev pub IsSwitchEnd : Bool → Option Name → WorldState → WorldState → Type 0
IsSwitchEnd start_up None w v = seen v ≡ seen w
IsSwitchEnd start_up (Some system) w v = (owed : Owed) × (order : List Name) × IsOwedBy start_up system w owed × IsOrderedAt w.leaves system owed order × IsSwitched system owed order w v

-- a step of removing the goal, where the profile is moved
abbrev pub IsClearStep : Option Move → WorldState → WorldState → Type 0
IsClearStep moves w m = where_some (m ≡ w) (λ move. IsOldOrGone goal_place w m) moves

-- the goal is being recorded, or the system is being made the boot default, or the units are being switched, or the goal is
-- being removed; each begins in the world that the one before it leaves
pub data IsStepTo (start_up : Bool) (moves : Option Move) (system : Name) (switches : Option Name) (w m : WorldState) : Type 0 where
  Recording : IsRecordStep moves w m → IsStepTo start_up moves system switches w m
  Setting : (r : WorldState) → seen r ≡ record_world moves w → IsDefaultStep moves system r m → IsStepTo start_up moves system switches w m
  Switching : (r u : WorldState) → seen r ≡ record_world moves w → seen u ≡ default_world moves system r → IsSwitchStep start_up switches u m → IsStepTo start_up moves system switches w m
  Clearing : (r u v : WorldState) → seen r ≡ record_world moves w → seen u ≡ default_world moves system r → IsSwitchEnd start_up switches u v → IsClearStep moves v m →
      IsStepTo start_up moves system switches w m

-- where exactly a moment stands: a command that changes nothing has none but its beginning
abbrev pub IsStepIf : Bool → Bool → Option Move → Name → Option Name → WorldState → WorldState → Type 0
IsStepIf false start_up moves system switches w m = m ≡ w
IsStepIf true start_up moves system switches w m = IsStepTo start_up moves system switches w m

-- the same for a command
abbrev pub IsStepOf : Command → WorldState → WorldState → Type 0
IsStepOf command w m = IsStepIf (row command w.leaves).changes (row command w.leaves).start_up (moved_by (row command w.leaves)) (new_system command w.leaves) (brought_to command w.leaves) w m

-- a rollback has come to its end: it is over, and no goal stands
pub record HasComeBack (command : Command) (w m : WorldState) : Type 0 where
  pub over : IsOver command w m
  pub cleared : get m.leaves goal_place ≡ None

-- a run is underway; where the profile goes back, it has come to its end once the goal is removed
abbrev pub IsOnItsWay : Option Move → Command → WorldState → WorldState → Type 0
IsOnItsWay None command w m = IsUnderway command w m
IsOnItsWay (Some Set) command w m = IsUnderway command w m
IsOnItsWay (Some (Point n)) command w m = IsUnderway command w m ⊎ HasComeBack command w m

-- the profile names the system that it named, or the one that it is moved to
abbrev pub NamesOneOf : Option Name → WorldState → WorldState → Type 0
NamesOneOf to w m = where_some ((other : List ℕ) → Names m.leaves other ↔ Names w.leaves other) (λ system. NamesOldOrNew system w m) to

-- What each moment has of a planned command that is carried out, given the world at its beginning, which isn't refused.
-- The journal has grown by a beginning of exactly what the command enters, so that no act runs ahead of its entry or is
-- entered without being owed.
-- A firmware finds in the boot menu that an entry stands as it did or is that of a generation that stands, that no
-- generation that stands has lost its entry, and that what the boot loader reads first is as it was or names the current
-- generation, whose entry stands.
pub record IsMomentOf (command : Command) (w m : WorldState) : Type 0 where
  pub step : IsStepOf command w m
  pub underway : IsSteadyFor command w → IsOnItsWay (row command w.leaves).moves command w m
  pub entered : IsEntering command w m
  pub named : NamesOneOf (set_to command w.leaves) w m
  pub menu : IsMenuBetween w.leaves m.leaves

-- Runs of one command lead from one world to another: each but the last is cut, in one of these worlds, which is a
-- moment of it, and the last comes to its end.
abbrev pub LeadsBy : Command → List WorldState → WorldState → WorldState → Type 0
LeadsBy command [] w v = IsEndOf command w v
LeadsBy command (m ∷ cuts) w v = IsMomentOf command w m × LeadsBy command cuts m v

-- one of some runs was cut when a rollback that began in a world had come to its end
abbrev pub HasComeBackIn : Command → WorldState → List WorldState → Type 0
HasComeBackIn command first [] = ⊥
HasComeBackIn command first (m ∷ cuts) = HasComeBack command first m ⊎ HasComeBackIn command first cuts
