-- What the law uses of a beginning of the stops.
use Rattle.std.proofs.Common.{◌≡◌, ◌⊎◌, IsTrue}
use Rattle.host_trait.specs.declared.unit_state.State.{State}
use Rattle.host_trait.specs.declared.unit_state.State.TheVariants.{Active}
use Rattle.owed_plan.specs.Lists.{pending}
use Rattle.log_text.specs.declared.lists.Lists.{Lists}
use Rattle.log_text.specs.declared.lists.Which.{Which}
use Rattle.log_text.specs.declared.lists.Which.TheVariants.{Starts}
use Rattle.log_text.specs.Lists.{list_names}
use Rattle.owed_plan.specs.Owed.{Stops, Waits}
use Rattle.owed_plan.specs.Systems.{Systems, IsDefined}
use Rattle.switch_names.specs.declared.unit_kind.UnitKind.TheVariants.{Service, Socket}
use Rattle.switch_names.specs.Names.{Name, has}

-- some of the stops are made, no service before its sockets, and the lists are recorded
pub record IsPartly (systems : Systems) (states : Name → State) (lists : Lists) (later : Name → State) (kept : Lists) : Type 0 where
  pub before : (unit : Name) → later unit ≡ Active → states unit ≡ Active
  pub after : (unit : Name) → states unit ≡ Active → (later unit ≡ Active) ⊎ Stops systems states lists unit
  pub order : (service socket : Name) → (systems.facts service).kind ≡ Service → (systems.facts socket).kind ≡ Socket → Stops systems states lists socket → later socket ≡ Active → states service ≡ Active → later service ≡ Active
  pub starts : (unit : Name) → Waits systems states lists Starts unit → IsTrue (has (pending kept) unit)
  pub from : (which : Which) (unit : Name) → IsTrue (has (list_names kept which) unit) → IsTrue (has (list_names lists which) unit) ⊎ Waits systems states lists which unit
  pub to : (which : Which) (unit : Name) → IsTrue (has (list_names lists which) unit) → IsDefined systems unit → IsTrue (has (list_names kept which) unit)
