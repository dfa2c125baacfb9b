-- The lists of what is owed, told of each unit by tests: NixOS manual, "Unit handling".
use Rattle.std.specs.Prelude.{◌≡◌, ◌&&◌, ◌||◌, Bool, List, filter, not}
use Rattle.std.specs.List.{list_any}
use Rattle.std.specs.List.Sorted.{IsStrictlySortedBy}
use Rattle.host_trait.specs.World.{bytes_cmp}
use Rattle.log_text.specs.declared.lists.Lists.{Lists}
use Rattle.log_text.specs.declared.lists.Which.{Which}
use Rattle.log_text.specs.declared.lists.Which.TheVariants.{Starts}
use Rattle.log_text.specs.Lists.{list_names, with_list}
use Rattle.host_trait.specs.Manager.{is_active}
use Rattle.owed_plan.specs.Decisions.{Situation, leaves, puts, stops, wakes}
use Rattle.owed_plan.specs.Lists.{is_listed}
use Rattle.owed_plan.specs.Systems.{Systems}
use Rattle.owed_plan.specs.declared.owed.Owed.{Owed}
use Rattle.owed_plan.specs.declared.deciding.UnitDecision.{UnitDecision}
use Rattle.switch_names.specs.Names.{Name, has}
use Rattle.switch_names.specs.declared.unit_kind.UnitKind.TheVariants.{Service}
use Rattle.unit_decide.specs.Kinds.{is_kind}

-- a service with a socket that the new system defines
abbrev pub is_socketed : Systems → Name → Bool
is_socketed systems unit = is_kind (systems.facts unit).kind Service && list_any (λ socket. (systems.facts socket).in_new) (systems.sockets unit)

-- those of some names that the new system defines
abbrev pub defined : Situation → List Name → List Name
defined situation names = filter (λ name. (situation.systems.facts name).in_new) names

-- the unit is put on a list by what is decided, or listed and defined
abbrev pub is_by_self : Situation → List UnitDecision → Lists → Which → Name → Bool
is_by_self situation decisions lists which unit = list_any (puts which unit) decisions || has (defined situation (list_names lists which)) unit

-- a pulled unit that neither stays up nor passes this test, and isn't left to a socket
abbrev pub comes_up_by : Situation → List Name → (Name → Bool) → Name → Bool
comes_up_by situation stops is_on_list unit =
    (not (is_active (situation.states unit)) || has stops unit) && not (is_on_list unit) && not (is_socketed situation.systems unit)

-- a pulled unit that comes up by no other way: it neither stays up nor is on one of these lists, and isn't left to a socket
abbrev pub comes_up : Situation → List Name → Lists → Name → Bool
comes_up situation stops own unit = comes_up_by situation stops (is_listed own) unit

-- a list in byte order without repeats that has exactly the names that pass a test
pub record IsListBy (names : List Name) (test : Name → Bool) : Type 0 where
  pub sorted : IsStrictlySortedBy bytes_cmp names
  pub exact : (unit : Name) → has names unit ≡ test unit

-- the lists of the units that are on each by themselves
abbrev pub AreBySelf : Situation → List UnitDecision → Lists → Lists → Type 0
AreBySelf situation decisions lists own = (which : Which) → IsListBy (list_names own which) (is_by_self situation decisions lists which)

-- the lists have the units that are on each by themselves, and the starts also the live sockets of what is decided, and what is pulled
-- and comes up by no other way
pub record IsCollected (situation : Situation) (decisions : List UnitDecision) (lists : Lists) (pulled : List Name) (owed : Owed) : Type 0 where
  pub own : Lists
  pub are_own : AreBySelf situation decisions lists own
  pub stops : IsListBy owed.stops (λ unit. list_any (stops situation unit) decisions)
  pub starts : IsListBy owed.lists.starts (λ unit. (has own.starts unit || list_any (wakes unit) decisions) || has (filter (comes_up situation owed.stops own) pulled) unit)
  pub others : owed.lists ≡ with_list own Starts owed.lists.starts
  pub left : IsListBy owed.left (λ unit. list_any (leaves unit) decisions)
