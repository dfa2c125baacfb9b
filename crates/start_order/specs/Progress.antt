-- What is done as units are taken in order: systemd.unit(5), "Before=, After=".
use Rattle.std.specs.Prelude.{◌≡◌, ◌++◌, List, [], ◌∷◌, Option, None, slice_get, if◌then◌else◌}
use Rattle.start_order.specs.declared.edge.Edge.{Edge}
use Rattle.start_order.specs.declared.ordered.Cycle.{Cycle}
use Rattle.start_order.specs.declared.ordered.Ordered.{Ordered}
use Rattle.start_order.specs.Cycles.{IsCycle}
use Rattle.start_order.specs.Order.{is_stuck}
use Rattle.switch_names.specs.Names.{Name}

-- the first of the units that are left, where none is free
abbrev pub stuck_unit : List Edge → List Name → Option Name
stuck_unit edges left = if is_stuck edges left then slice_get left 0 else None

-- a unit comes to the broken ones, and its cycle to theirs
pub record IsBreak (edges : List Edge) (left : List Name) (unit : Name) (old new : Ordered) : Type 0 where
  pub units : new.units ≡ old.units
  pub given : new.edges ≡ old.edges
  pub broken : new.broken ≡ old.broken ++ unit ∷ []
  pub cycle : Cycle
  pub is_cycle : IsCycle edges left unit cycle.units
  pub cycles : new.cycles ≡ old.cycles ++ cycle ∷ []
