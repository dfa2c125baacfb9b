-- Units in order, with what could not be kept: systemd.unit(5), "Before=, After=".
use Rattle.std.specs.Prelude.{◌≡◌, List}
use Rattle.start_order.specs.declared.edge.Edge.{Edge}
use Rattle.start_order.specs.declared.ordered.Ordered.{Ordered}
use Rattle.start_order.specs.Cycles.{AreCycles}
use Rattle.start_order.specs.Order.{IsBroken, IsOrder}
use Rattle.switch_names.specs.Names.{IsListOf, Name}

-- the units are in order by exactly these edges, and the broken ones and their cycles are told
pub record IsOrdered (units : List Name) (edges : List Edge) (ordered : Ordered) : Type 0 where
  pub order : IsOrder units edges ordered.units
  pub given : ordered.edges ≡ edges
  pub broken : IsListOf ordered.broken (IsBroken units edges ordered.units)
  pub cycles : AreCycles units edges ordered.units ordered.broken ordered.cycles
