-- The order in which a switch starts units: systemd.unit(5), "Before=, After=".
use Rattle.std.specs.Prelude.{◌≡◌, List}
use Rattle.host_trait.specs.World.{Leaves}
use Rattle.owed_plan.specs.declared.owed.Owed.{Owed}
use Rattle.owed_plan.specs.StartEdges.{AreStartEdges}
use Rattle.owed_plan.specs.Systems.{Texts}
use Rattle.start_order.specs.declared.ordered.Ordered.{Ordered}
use Rattle.start_order.specs.Ordered.{IsOrdered}
use Rattle.switch_names.specs.Names.{Name, has}
use Rattle.unit_defs.specs.Units.{text_of}

-- units in order, by exactly the edges that their texts put between them
pub record AreInOrder (texts : Texts) (starts : List Name) (ordered : Ordered) : Type 0 where
  pub edges_are : AreStartEdges texts starts ordered.edges
  pub is_ordered : IsOrdered starts ordered.edges ordered

-- the starts of what is owed in order, by what a system says of its units
abbrev pub AreOrderedAt : Leaves → Name → Owed → Ordered → Type 0
AreOrderedAt leaves system owed ordered = AreInOrder (text_of leaves system) owed.lists.starts ordered

-- the order of the starts of what is owed, by what a system says of its units
abbrev pub IsOrderedAt : Leaves → Name → Owed → List Name → Type 0
IsOrderedAt leaves system owed order = (ordered : Ordered) × AreOrderedAt leaves system owed ordered × (order ≡ ordered.units)

-- the units of an order are those that are started
abbrev pub ArrangesStarts : Owed → List Name → Type 0
ArrangesStarts owed order = (unit : Name) → has order unit ≡ has owed.lists.starts unit
