-- The units that the targets of a system want, and what these want in turn: systemd.unit(5), "Wants=".
use Rattle.std.specs.Prelude.{◌≡◌, IsTrue}
use Rattle.host_trait.specs.declared.unit_state.State.{State}
use Rattle.host_trait.specs.declared.unit_state.State.TheVariants.{Active}
use Rattle.owed_plan.specs.Lists.{pending}
use Rattle.log_text.specs.declared.lists.Lists.{Lists}
use Rattle.owed_plan.specs.Systems.{Systems, IsDefined}
use Rattle.switch_names.specs.declared.unit_kind.UnitKind.TheVariants.{Target}
use Rattle.switch_names.specs.Names.{Name, has}
use Rattle.unit_defs.specs.Pull.{Reached}

-- a target of the new system that is active and may start, or that waits for a start
pub data IsRoot (systems : Systems) (states : Name → State) (lists : Lists) (unit : Name) : Type 0 where
  Running : IsDefined systems unit → (systems.facts unit).kind ≡ Target → states unit ≡ Active → IsTrue (systems.facts unit).may_start → IsRoot systems states lists unit
  Pending : IsDefined systems unit → (systems.facts unit).kind ≡ Target → IsTrue (has (pending lists) unit) → IsRoot systems states lists unit

-- a unit that is reached from the roots
abbrev pub Pulled : Systems → (Name → State) → Lists → Name → Type 0
Pulled systems states lists = Reached systems.wanted (IsRoot systems states lists)
