use Rattle.std.proofs.Common.{◌≡◌, take}
use Rattle.std.specs.List.{list_any}
use Rattle.start_order.specs.Order.{is_before}
use Rattle.switch_names.specs.Names.{Name}
use Rattle.unit_defs.specs.Defs.{found_in}
use Rattle.owed_plan.specs.StartEdges.{is_put_by}
use Rattle.owed_plan.proofs.edges.order_edges.Given as goal

abbrev pub invariant-loop-unit : goal.invariant-loop-unit
invariant-loop-unit l = (before after : Name) → is_before l.edges before after ≡ list_any (λ unit. is_put_by (found_in l.new) l.starts unit before after) (take l.unit-index l.unit-items)
