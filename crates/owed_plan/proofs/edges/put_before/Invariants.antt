use Rattle.std.proofs.Common.{◌≡◌, ◌&&◌, ◌||◌, take}
use Rattle.start_order.specs.Order.{is_before}
use Rattle.switch_names.specs.Names.{Name, has, is_name}
use Rattle.owed_plan.proofs.edges.put_before.Given as goal

abbrev pub invariant-loop-before : goal.invariant-loop-before
invariant-loop-before l = (before after : Name) → is_before l.edges before after ≡ (is_before l.initial.edges before after || (has (take l.before-index l.befores) before && is_name after l.unit))
