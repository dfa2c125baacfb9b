-- Calls on units, one after the other: systemctl(1), "Unit Commands".
use Rattle.std.specs.Prelude.{◌≡◌, ℕ, List, [], ◌∷◌, Some, slice_get, take}
use Rattle.host_trait.specs.declared.entry.Act.TheVariants.{Reload, Restart}
use Rattle.host_trait.specs.declared.entry.Entry.{Entry}
use Rattle.host_trait.specs.declared.manager_state.ManagerState.{ManagerState}
use Rattle.host_trait.specs.declared.unit_state.State.TheVariants.{Active}
use Rattle.host_trait.specs.Manager.{acted, halted}
use Rattle.host_trait.specs.States.{state_of}
use Rattle.host_trait.specs.World.{WorldState, with_manager}
use Rattle.owed_plan.specs.declared.duty.Duty.{Duty}
use Rattle.owed_plan.specs.Calls.{duty}
use Rattle.switch_names.specs.Names.{Name}

-- a manager after these calls, in their order
abbrev pub performed : List Duty → ManagerState → ManagerState
performed [] manager = manager
performed (call ∷ calls) manager = performed calls (acted call.act call.unit manager)

-- the world after these calls
abbrev pub with_calls : List Duty → WorldState → WorldState
with_calls calls w = with_manager (performed calls w.manager) w

-- each reload finds its unit active when its turn comes
abbrev pub CanPerform : List Duty → ManagerState → Type 0
CanPerform [] manager = Unit {0}
CanPerform (call ∷ calls) manager =
    (call.act ≡ Reload → state_of manager.states call.unit ≡ Active) × CanPerform calls (acted call.act call.unit manager)

-- some of the calls have been made, in their order, and a restart may be half way through
pub data IsPerforming (calls : List Duty) (w m : WorldState) : Type 0 where
  After : (count : ℕ) → m ≡ with_calls (take count calls) w → IsPerforming calls w m
  Within : (count : ℕ) (unit : Name) → slice_get calls count ≡ Some (duty Restart unit)
      → m ≡ with_manager (halted unit (performed (take count calls) w.manager)) w → IsPerforming calls w m

-- the entry of a call that is made under these definitions
abbrev pub entry_of : List ℕ → Duty → Entry
entry_of loaded call = record { unit = call.unit; act = call.act; loaded = loaded }
