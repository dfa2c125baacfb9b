-- What a switch owes the units: NixOS manual, "Unit handling".
use Rattle.std.specs.Prelude.{◌≡◌, ◌&&◌, ◌++◌, Bool, false, IsTrue, List, filter, not}
use Rattle.std.specs.List.{list_any}
use Rattle.host_trait.specs.declared.unit_state.State.{State}
use Rattle.host_trait.specs.declared.unit_state.State.TheVariants.{Active}
use Rattle.owed_plan.specs.Lists.{Debt, OnList, ToStop, is_live, is_put, owed_names}
use Rattle.log_text.specs.declared.lists.Lists.{Lists}
use Rattle.log_text.specs.declared.lists.Which.{Which}
use Rattle.log_text.specs.declared.lists.Which.TheVariants.{Starts}
use Rattle.log_text.specs.Lists.{list_names}
use Rattle.owed_plan.specs.Pull.{Pulled}
use Rattle.owed_plan.specs.Systems.{Systems, Counts, IsDefined, IsSocketed}
use Rattle.owed_plan.specs.declared.owed.Owed.{Owed}
use Rattle.switch_names.specs.declared.unit_kind.UnitKind.{UnitKind}
use Rattle.switch_names.specs.declared.unit_kind.UnitKind.TheVariants.{Socket, Target}
use Rattle.unit_decide.specs.declared.decision.Decision.{Decision}
use Rattle.unit_decide.specs.declared.decision.Decision.TheVariants.{Nothing, SocketStart, Stop, StopStart}
use Rattle.unit_decide.specs.Decision.{decide}
use Rattle.unit_decide.specs.Kinds.{is_kind, is_same}
use Rattle.switch_names.specs.Names.{IsListOf, Name, has}

-- a socket of the unit that the new system defines is live
abbrev pub has_live : Systems → (Name → State) → Lists → Name → Bool
has_live systems states lists unit =
    list_any (λ socket. (systems.facts socket).in_new && is_live states lists socket) (systems.sockets unit)

-- the unit is active, and this is the decision on it
pub record Decides (systems : Systems) (states : Name → State) (lists : Lists) (unit : Name) (decision : Decision) : Type 0 where
  pub active : states unit ≡ Active
  pub row : decide (systems.facts unit) (has_live systems states lists unit) ≡ decision

-- a live socket of a service that is left to its sockets
abbrev pub Activates : Systems → (Name → State) → Lists → Name → Name → Type 0
Activates systems states lists service socket =
    Decides systems states lists service SocketStart × Counts systems service socket × IsTrue (is_live states lists socket)

-- what is stopped: by its own decision, or an active socket for its service
pub data Stops (systems : Systems) (states : Name → State) (lists : Lists) (unit : Name) : Type 0 where
  ByStop : Decides systems states lists unit Stop → Stops systems states lists unit
  ByStopStart : Decides systems states lists unit StopStart → Stops systems states lists unit
  BySocketStart : Decides systems states lists unit SocketStart → Stops systems states lists unit
  ByService : (service : Name) → Activates systems states lists service unit → states unit ≡ Active → Stops systems states lists unit

-- a unit is on a list by itself: by its own decision, or it is listed and defined
pub data IsBySelf (systems : Systems) (states : Name → State) (lists : Lists) (which : Which) (unit : Name) : Type 0 where
  ByDecision : (decision : Decision) → IsTrue (is_put which decision) → Decides systems states lists unit decision → IsBySelf systems states lists which unit
  ByList : IsTrue (has (list_names lists which) unit) → IsDefined systems unit → IsBySelf systems states lists which unit

-- a unit is started for others: a live socket for its service, or what is pulled, neither stays up nor is on a list by itself, and
-- isn't left to a socket
pub data IsForOthers (systems : Systems) (states : Name → State) (lists : Lists) (unit : Name) : Type 0 where
  ByService : (service : Name) → Activates systems states lists service unit → IsForOthers systems states lists unit
  ByPull : Pulled systems states lists unit → (states unit ≡ Active → Stops systems states lists unit) → ((which : Which) → ¬ IsBySelf systems states lists which unit) →
      ¬ IsSocketed systems unit → IsForOthers systems states lists unit

-- a unit is owed what those of a list wait for: it is on the list by itself, or it is started for others
pub data Waits (systems : Systems) (states : Name → State) (lists : Lists) (which : Which) (unit : Name) : Type 0 where
  BySelf : IsBySelf systems states lists which unit → Waits systems states lists which unit
  ForOthers : which ≡ Starts → IsForOthers systems states lists unit → Waits systems states lists which unit

-- the unit is owed this
abbrev pub IsDue : Systems → (Name → State) → Lists → Debt → Name → Type 0
IsDue systems states lists ToStop unit = Stops systems states lists unit
IsDue systems states lists (OnList which) unit = Waits systems states lists which unit

-- a changed unit that both systems define, that stays up, and that gets nothing
pub record IsLeft (systems : Systems) (states : Name → State) (lists : Lists) (unit : Name) : Type 0 where
  pub decided : Decides systems states lists unit Nothing
  pub no_target : is_kind (systems.facts unit).kind Target ≡ false
  pub in_old : IsTrue (systems.facts unit).in_old
  pub in_new : IsDefined systems unit
  pub changed : is_same (systems.facts unit).outcome ≡ false

-- the stops and the lists have exactly the units that are owed each
abbrev pub IsOwed : Systems → (Name → State) → Lists → Owed → Type 0
IsOwed systems states lists owed = (debt : Debt) → IsListOf (owed_names owed debt) (IsDue systems states lists debt)

-- what is owed, and exactly the units that are left
pub record IsPlan (systems : Systems) (states : Name → State) (lists : Lists) (owed : Owed) : Type 0 where
  pub is_owed : IsOwed systems states lists owed
  pub left : IsListOf owed.left (IsLeft systems states lists)

-- units of these kinds, sockets first and then the others
abbrev pub sockets_first : (Name → UnitKind) → List Name → List Name
sockets_first kind units = filter (λ unit. is_kind (kind unit) Socket) units ++ filter (λ unit. not (is_kind (kind unit) Socket)) units

-- the stops in their order
abbrev pub stop_order : Systems → List Name → List Name
stop_order systems stops = sockets_first (λ unit. (systems.facts unit).kind) stops
