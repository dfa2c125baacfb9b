-- The lists of units that a switch which was cut has left, and what the units of each wait for: NixOS manual, "Unit handling".
use Rattle.std.specs.Prelude.{◌&&◌, ◌||◌, Bool, true, false, List}
use Rattle.std.specs.List.{list_any}
use Rattle.host_trait.specs.declared.unit_state.State.{State}
use Rattle.host_trait.specs.Manager.{is_active}
use Rattle.log_text.specs.declared.lists.Lists.{Lists}
use Rattle.log_text.specs.declared.lists.Which.{Which}
use Rattle.log_text.specs.declared.lists.Which.TheVariants.{Starts, Restarts, Reloads}
use Rattle.log_text.specs.Lists.{list_names, record_order}
use Rattle.owed_plan.specs.declared.owed.Owed.{Owed}
use Rattle.switch_names.specs.Names.{Name, has}
use Rattle.unit_decide.specs.declared.decision.Decision.{Decision}
use Rattle.unit_decide.specs.declared.decision.Decision.TheVariants.{Reload, Restart, Start, StopStart}

-- the list is that of the units to start
abbrev pub is_starts : Which → Bool
is_starts Starts = true
is_starts which = false

-- the decision puts its unit on a list
abbrev pub is_put : Which → Decision → Bool
is_put Starts Start = true
is_put Starts StopStart = true
is_put Restarts Restart = true
is_put Reloads Reload = true
is_put which decision = false

-- the calls of a list bring each of its units up anew, also one that is up
abbrev pub renews : Which → Bool
renews Restarts = true
renews which = false

-- a list has the unit
abbrev pub is_listed : Lists → Name → Bool
is_listed lists unit = list_any (λ which. has (list_names lists which) unit) record_order

-- a list whose calls bring units up anew has the unit
abbrev pub is_renewed : Lists → Name → Bool
is_renewed lists unit = list_any (λ which. renews which && has (list_names lists which) unit) record_order

-- the names that wait for a start
abbrev pub pending : Lists → List Name
pending lists = lists.starts

-- a socket that is active or waits for a start
abbrev pub is_live : (Name → State) → Lists → Name → Bool
is_live states lists socket = is_active (states socket) || has (pending lists) socket

-- what a unit may be owed: a stop, or what the units of a list wait for
pub data Debt : Type 0 where
  ToStop : Debt
  OnList : Which → Debt

-- the units that are owed this
abbrev pub owed_names : Owed → Debt → List Name
owed_names owed ToStop = owed.stops
owed_names owed (OnList which) = list_names owed.lists which
