-- A world with the record of the calls that changed it, from which its earlier worlds follow.
use Rattle.std.specs.Prelude.{◌≡◌, ◌≤◌, ◌+◌, ◌-◌, ℕ, Bool, List, [], ◌∷◌, ◌++◌, length, drop, take, Option, None, Some}
use Rattle.std.specs.FinMap.{get, insert, remove}
use Rattle.host_memory.specs.declared.history.DoneCall.{DoneCall}
use Rattle.host_memory.specs.declared.history.DoneCall.TheVariants.{Staged, Renamed, Removed, Appended, Replaced, Performed, Halted, Loaded}
use Rattle.host_memory.specs.declared.history.History.{History}
use Rattle.host_trait.specs.Change.{Change, IsMoment, Stage, Rename, Remove, Append, Perform, DaemonReload}
use Rattle.host_trait.specs.declared.entry.Act.{Act}
use Rattle.host_trait.specs.declared.leaf.LeafKind.{LeafKind}
use Rattle.host_trait.specs.declared.leaf.LeafKind.TheVariants.{File, Link}
use Rattle.host_trait.specs.Host.{HostState, Passes}
use Rattle.host_trait.specs.declared.manager_state.ManagerState.{ManagerState}
use Rattle.host_trait.specs.declared.unit_state.State.{State}
use Rattle.host_trait.specs.Manager.{loading}
use Rattle.host_trait.specs.States as states
use Rattle.host_trait.specs.States.{with_state}
use Rattle.host_trait.specs.World.{Leaves, WorldState, moved, stage, with_manager}
use Rattle.manager_core.specs.Call.{entered}

-- the leaves with what stood at a path put back there
abbrev pub with_at : Leaves → List ℕ → Option LeafKind → Leaves
with_at leaves at None = remove leaves at
with_at leaves at (Some leaf) = insert leaves at leaf

-- the manager with a unit in this state
abbrev pub with_unit : List ℕ → State → ManagerState → ManagerState
with_unit unit state manager = record manager { states = with_state unit state manager.states }

-- a list without its last item
abbrev pub without_last : {X : Type 0} → List X → List X
without_last items = take (length items - 1) items

-- a file cut to its first bytes
abbrev pub shortened : ℕ → LeafKind → LeafKind
shortened count (File bytes mode uid gid) = File (take count bytes) mode uid gid
shortened count (Link target) = Link target

abbrev pub with_shortened : Leaves → List ℕ → ℕ → Option LeafKind → Leaves
with_shortened leaves at count None = leaves
with_shortened leaves at count (Some leaf) = insert leaves at (shortened count leaf)

-- the world before a call, from the world after it
abbrev pub undone : DoneCall → WorldState → WorldState
undone (Staged was) w = record w { leaves = with_at w.leaves stage was }
undone (Renamed to was) w = record w { leaves = with_at (moved w.leaves to stage) to was; written = without_last w.written }
undone (Removed at was) w = record w { leaves = with_at w.leaves at was; written = without_last w.written }
undone (Appended at count) w = record w { leaves = with_shortened w.leaves at count (get w.leaves at); written = without_last w.written }
undone (Replaced at was) w = record w { leaves = with_at w.leaves at was }
undone (Performed unit was) w = with_manager (record (with_unit unit was w.manager) { journal = without_last w.manager.journal }) w
undone (Halted unit was) w = with_manager (with_unit unit was w.manager) w
undone (Loaded was) w = with_manager (loading was w.manager) w

-- the world before some calls, of which the first is the oldest
abbrev pub rewound : List DoneCall → WorldState → WorldState
rewound [] w = w
rewound (call ∷ calls) w = undone call (rewound calls w)

-- the worlds since a time: the present one with the calls after some later time undone
abbrev pub LeftSince : List DoneCall → WorldState → ℕ → WorldState → Type 0
LeftSince calls w time m = (k : ℕ) × (time ≤ k) × (k ≤ length calls) × (m ≡ rewound (drop k calls) w)

-- the host with this world and this record
abbrev pub memory_state : List DoneCall → WorldState → Option ℕ → ℕ → Bool → HostState
memory_state calls w last faults is_sure = record {
  world = Some w;
  clock = length calls;
  left_since = LeftSince calls w;
  last = last;
  faults = faults;
  is_sure = is_sure;
}

-- the host with this history
abbrev pub state_of : History → Option ℕ → ℕ → Bool → HostState
state_of history last faults is_sure = memory_state history.calls.items history.world last faults is_sure

-- a history went on, and each moment on the way has this relation to the old world
pub record GoesOn (old new : History) (R : WorldState → WorldState → Type 0) : Type 0 where
  pub passes :
      (last then_last : Option ℕ) (faults then_faults : ℕ) (is_sure then_sure : Bool) →
      Passes (state_of old last faults is_sure) (state_of new then_last then_faults then_sure) R

-- a history went on beside the manager: whichever that is, each moment on the way has this relation to the old world
pub record GoesOnBeside (old new : History) (R : WorldState → WorldState → Type 0) : Type 0 where
  pub same_manager : new.world.manager ≡ old.world.manager
  pub passes :
      (manager : ManagerState) (last then_last : Option ℕ) (faults then_faults : ℕ) (is_sure then_sure : Bool) →
      Passes
      (memory_state old.calls.items (with_manager manager old.world) last faults is_sure)
      (memory_state new.calls.items (with_manager manager new.world) then_last then_faults then_sure)
      R

-- a change of the leaves alone
abbrev pub IsOfTree : Change → Type 0
IsOfTree (Stage leaf) = Unit {0}
IsOfTree (Rename to) = Unit {0}
IsOfTree (Remove at) = Unit {0}
IsOfTree (Append at bytes) = Unit {0}
IsOfTree (Perform act unit) = ⊥
IsOfTree DaemonReload = ⊥

-- a call was made: it left this world, and one item more in the record
pub record Makes (change : Change) (after : WorldState) (old new : History) : Type 0 where
  pub world : new.world ≡ after
  pub clock : length new.calls.items ≡ length old.calls.items + 1
  pub moments : GoesOn old new (IsMoment change)
  pub beside : IsOfTree change → GoesOnBeside old new (IsMoment change)

-- a call was cut: what the cut left is this world, with one item more in the record or none
pub record Cuts (change : Change) (after : WorldState) (old new : History) : Type 0 where
  pub world : new.world ≡ after
  pub later : length old.calls.items ≤ length new.calls.items
  pub clock : length new.calls.items ≤ length old.calls.items + 1
  pub moments : GoesOn old new (IsMoment change)
  pub beside : IsOfTree change → GoesOnBeside old new (IsMoment change)

-- world and record are as they were
pub record Stays (old new : History) : Type 0 where
  pub world : new.world ≡ old.world
  pub calls : new.calls.items ≡ old.calls.items

-- an act was entered that has no effect yet; it is undone as one that has had it
pub record Enters (act : Act) (unit : List ℕ) (old new : History) : Type 0 where
  pub world : new.world ≡ with_manager (entered act unit old.world.manager) old.world
  pub calls : new.calls.items ≡ old.calls.items ++ Performed unit (states.state_of old.world.manager.states unit) ∷ []
