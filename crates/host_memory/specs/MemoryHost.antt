-- A host in memory: what it means as a host, and what becomes of each call.
use Rattle.std.specs.Prelude.{◌≡◌, ◌⊎◌, ◌+◌, ℕ, Bool, length, Option, None, Some, Result, Ok, IsErrOf, if◌then◌else◌}
use Rattle.host_memory.specs.Cuts.{left_by}
use Rattle.host_memory.specs.declared.cuts.ArmedCut.{ArmedCut}
use Rattle.host_memory.specs.declared.memory_host.MemoryHost.{MemoryHost}
use Rattle.host_memory.specs.History as history
use Rattle.host_memory.specs.History.{memory_state, state_of}
use Rattle.host_memory.specs.Troubles.{TroublesState, admitted, changed, due, fallen, is_refused, is_sure, last_moment, refused}
use Rattle.host_trait.specs.Change.{Change, IsMoment, finished}
use Rattle.host_trait.specs.declared.entry.Act.{Act}
use Rattle.host_trait.specs.declared.manager_state.ManagerState.{ManagerState}
use Rattle.host_trait.specs.declared.tree.HostFault.{HostFault}
use Rattle.host_trait.specs.declared.tree.HostFault.TheVariants.{Memory, Device}
use Rattle.host_trait.specs.Host.{HostState, Passes}
use Rattle.host_trait.specs.World.{with_manager}
use Rattle.manager_core.specs.Call.{effected}
use Rattle.switch_names.specs.Names.{Name}

-- what is to go wrong on it
abbrev pub troubles_of : MemoryHost → TroublesState
troubles_of host = host.troubles

-- how many calls have changed its world
abbrev pub clock_of : MemoryHost → ℕ
clock_of host = length host.history.calls.items

-- as a host it tells its world, and its record tells the worlds of earlier moments
abbrev pub host_of : MemoryHost → HostState
host_of host = state_of host.history (last_moment host.troubles.cut) host.troubles.faults (is_sure host.troubles)

-- the host as it is with this manager in place of its own
abbrev pub host_with : ManagerState → MemoryHost → HostState
host_with manager host =
    memory_state host.history.calls.items (with_manager manager host.history.world) (last_moment host.troubles.cut) host.troubles.faults (is_sure host.troubles)

-- the manager of its world
abbrev pub manager_of : MemoryHost → ManagerState
manager_of host = host.history.world.manager

-- whether the next call is refused
abbrev pub is_refusing : MemoryHost → Bool
is_refusing host = is_refused host.troubles

-- what is to go wrong after a call that changes nothing
abbrev pub after_read : MemoryHost → TroublesState
after_read host = if is_refusing host then refused host.troubles else admitted host.troubles

-- what becomes of a changing call
pub data Verdict : Type 0 where
  Refused : Verdict
  Cut : ArmedCut → Verdict
  Admitted : Verdict

-- a call is refused, else a changing one may be cut
abbrev pub cut_or_admitted : Option ArmedCut → Verdict
cut_or_admitted None = Admitted
cut_or_admitted (Some cut) = Cut cut

abbrev pub verdict : MemoryHost → Verdict
verdict host =
    if is_refusing host then Refused else cut_or_admitted (due host.troubles.cut (clock_of host))

-- a call left the world as it was, and no item in the record
pub record Keeps (old new : MemoryHost) (to_come : TroublesState) : Type 0 where
  pub world : new.history.world ≡ old.history.world
  pub clock : clock_of new ≡ clock_of old
  pub troubles : new.troubles ≡ to_come

-- a call finished
pub record Finishes (change : Change) (old new : MemoryHost) : Type 0 where
  pub world : new.history.world ≡ finished change old.history.world
  pub clock : clock_of new ≡ clock_of old + 1
  pub troubles : new.troubles ≡ changed (admitted old.troubles)

-- a cut fell on a call: it left what its pick gives
pub record Falls (change : Change) (cut : ArmedCut) (old new : MemoryHost) : Type 0 where
  pub world : new.history.world ≡ left_by change cut.pick old.history.world
  pub troubles : new.troubles ≡ record (refused old.troubles) { cut = Some (fallen cut) }

-- what a changing call answers and leaves, by the verdict on it; for want of memory it leaves all as it was
abbrev pub Does : Change → Verdict → MemoryHost → MemoryHost → Result (Unit {0}) HostFault → Type 0
Does change Refused old new result = IsErrOf result Device × Keeps old new (refused old.troubles)
Does change (Cut cut) old new result =
    (IsErrOf result Memory × Keeps old new (admitted old.troubles)) ⊎ (IsErrOf result Device × Falls change cut old new)
Does change Admitted old new result =
    (IsErrOf result Memory × Keeps old new (admitted old.troubles)) ⊎ ((result ≡ Ok tt) × Finishes change old new)

-- a call left the world and its record as they were
abbrev pub IsStill : MemoryHost → MemoryHost → Type 0
IsStill old new = history.Stays old.history new.history

-- a call on the tree left the manager as it was, and went on as it would beside any other one
pub record GoesBeside (change : Change) (old new : MemoryHost) : Type 0 where
  pub same_manager : manager_of new ≡ manager_of old
  pub moments : (manager : ManagerState) → Passes (host_with manager old) (host_with manager new) (IsMoment change)

-- an act was entered that has no effect yet
abbrev pub HasEntered : Act → Name → MemoryHost → MemoryHost → Type 0
HasEntered act unit old new = history.Enters act unit old.history new.history

-- an act took effect that was entered before: that is no call, and has no item in the record
pub record TakesEffect (act : Act) (unit : Name) (old new : MemoryHost) : Type 0 where
  pub world : new.history.world ≡ with_manager (effected act unit (manager_of old)) old.history.world
  pub calls : new.history.calls.items ≡ old.history.calls.items
