-- Targets by which a switch that was cut could end otherwise than one that wasn't: NixOS manual, "Unit handling".
use Rattle.std.specs.Prelude.{◌≡◌, ◌≢◌, ◌&&◌, Bool, IsFalse, IsTrue, List, None, not}
use Rattle.std.specs.List.{list_any}
use Rattle.host_trait.specs.declared.unit_state.State.{State}
use Rattle.owed_plan.specs.Law.{AfterStops}
use Rattle.owed_plan.specs.Lists.{is_starts, pending}
use Rattle.log_text.specs.declared.lists.Lists.{Lists}
use Rattle.log_text.specs.declared.lists.Which.{Which}
use Rattle.log_text.specs.declared.lists.Which.TheVariants.{Starts}
use Rattle.log_text.specs.Lists.{list_names, record_order}
use Rattle.owed_plan.specs.Pull.{Pulled}
use Rattle.owed_plan.specs.Systems.{Systems, IsDefined}
use Rattle.switch_names.specs.declared.unit_kind.UnitKind.TheVariants.{Target}
use Rattle.switch_names.specs.Names.{Name, has}
use Rattle.unit_decide.specs.declared.facts.Facts.{Facts}
use Rattle.unit_decide.specs.Facts.{facts_of, unit_kind}
use Rattle.unit_decide.specs.Kinds.{is_kind}
use Rattle.unit_defs.specs.declared.unit.Unit.{Unit}
use Rattle.unit_defs.specs.Defs.{found_in}

-- a target that the new system stops at each switch and that may not start
abbrev pub IsStoppedForGood : Systems → Name → Type 0
IsStoppedForGood systems unit =
    IsDefined systems unit × ((systems.facts unit).kind ≡ Target) × IsTrue (systems.facts unit).stop_on_reconfiguration × IsFalse (systems.facts unit).may_start

-- no target that is stopped for good is pulled or waits for a start, and none is on another list
pub record IsSteady (systems : Systems) (states : Name → State) (lists : Lists) : Type 0 where
  pub pull : (unit : Name) → Pulled systems states lists unit → ¬ IsStoppedForGood systems unit
  pub starts : (unit : Name) → IsTrue (has (pending lists) unit) → ¬ IsStoppedForGood systems unit
  pub others : (which : Which) → which ≢ Starts → (unit : Name) → IsTrue (has (list_names lists which) unit) → (systems.facts unit).kind ≢ Target

-- the facts are of a target that is stopped for good
abbrev pub is_stopped_for_good : Facts → Bool
is_stopped_for_good facts = is_kind facts.kind Target && facts.in_new && facts.stop_on_reconfiguration && not facts.may_start

-- so these units have such a target of this name, whatever the old system has
abbrev pub has_for_good : List Unit → Name → Bool
has_for_good new unit = is_stopped_for_good (facts_of None (found_in new unit) unit)

-- the name is that of a target
abbrev pub is_target : Name → Bool
is_target unit = is_kind (unit_kind unit) Target

-- another list than that of the starts has a target
abbrev pub has_target : Lists → Which → Bool
has_target lists which = not (is_starts which) && list_any is_target (list_names lists which)

-- no target that is stopped for good is pulled or waits for a start, and none is on another list, told by tests
abbrev pub is_steady : List Unit → Lists → List Name → Bool
is_steady new lists pulled =
    not (list_any (has_for_good new) pulled) && not (list_any (has_for_good new) (pending lists)) && not (list_any (has_target lists) record_order)

-- after some of the stops, and with the lists recorded, what was steady is so still
abbrev pub SteadyLaw : Type 0
SteadyLaw = AfterStops (λ systems states lists owed later kept. IsSteady systems states lists → IsSteady systems later kept)
