-- What stops and recorded lists leave of what is owed: NixOS manual, "Unit handling".
use Rattle.std.specs.Prelude.{◌≡◌, ◌⊎◌, ◌↔◌, ℕ, IsTrue, List, filter, take, if◌then◌else◌}
use Rattle.host_trait.specs.declared.unit_state.State.{State}
use Rattle.host_trait.specs.declared.unit_state.State.TheVariants.{Active, Inactive}
use Rattle.host_trait.specs.Manager.{is_active}
use Rattle.log_text.specs.declared.lists.Lists.{Lists}
use Rattle.log_text.specs.declared.lists.Which.{Which}
use Rattle.log_text.specs.Lists.{list_names}
use Rattle.owed_plan.specs.declared.owed.Owed.{Owed}
use Rattle.owed_plan.specs.Owed.{IsOwed, Stops, Waits, stop_order}
use Rattle.owed_plan.specs.Pull.{Pulled}
use Rattle.owed_plan.specs.Systems.{Systems, IsDefined}
use Rattle.switch_names.specs.declared.unit_kind.UnitKind.TheVariants.{Socket}
use Rattle.switch_names.specs.Names.{Name, has}

-- the states where these units are stopped
abbrev pub stopped : List Name → (Name → State) → Name → State
stopped units states unit = if has units unit then Inactive else states unit

-- the start list is the owed one, each of the others is the owed one or still the old
pub record IsRecorded (owed : Owed) (old new : Lists) : Type 0 where
  pub starts : new.starts ≡ owed.lists.starts
  pub others : (which : Which) → (list_names new which ≡ list_names old which) ⊎ (list_names new which ≡ list_names owed.lists which)

-- units are paired with sockets, and what is wanted is defined
pub record IsSound (systems : Systems) : Type 0 where
  pub sockets : (unit socket : Name) → IsTrue (has (systems.sockets unit) socket) → (systems.facts socket).kind ≡ Socket
  pub wanted : (by unit : Name) → IsTrue (has (systems.wanted by) unit) → IsDefined systems unit

-- the same is owed as before, but for the units that are stopped already
pub record SameOwed (systems : Systems) (states later : Name → State) (lists kept : Lists) : Type 0 where
  pub pull : (unit : Name) → Pulled systems later kept unit ↔ Pulled systems states lists unit
  pub stops : (unit : Name) → Stops systems later kept unit ↔ (Stops systems states lists unit × (later unit ≡ Active))
  pub others : (which : Which) (unit : Name) → Waits systems later kept which unit ↔ Waits systems states lists which unit

-- the first so many of the stops have been made
abbrev pub AreStopped : Systems → Owed → ℕ → (Name → State) → (Name → State) → Type 0
AreStopped systems owed count states later =
    (unit : Name) → later unit ≡ stopped (take count (stop_order systems owed.stops)) states unit

-- this holds after some of the stops, and with the lists recorded
abbrev pub AfterStops : (Systems → (Name → State) → Lists → Owed → (Name → State) → Lists → Type 0) → Type 0
AfterStops Holds =
    (systems : Systems) (states later : Name → State) (lists kept : Lists) (owed : Owed) (count : ℕ) →
    IsSound systems → IsOwed systems states lists owed → AreStopped systems owed count states later → IsRecorded owed lists kept →
    Holds systems states lists owed later kept

-- after some of the stops, and with the lists recorded, the same is owed
abbrev pub Law : Type 0
Law = AfterStops (λ systems states lists owed later kept. SameOwed systems states later lists kept)

-- what is owed, with the stops of units that are still active
abbrev pub rest_of : (Name → State) → Owed → Owed
rest_of states owed = record owed { stops = filter (λ unit. is_active (states unit)) owed.stops }

-- after some of the stops, and with the lists recorded, the lists of what is owed are the same but for the stops
abbrev pub ListLaw : Type 0
ListLaw = AfterStops (λ systems states lists owed later kept. IsOwed systems later kept (rest_of later owed))
