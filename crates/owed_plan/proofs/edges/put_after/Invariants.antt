use Rattle.std.proofs.Common.{◌≡◌, ◌&&◌, ◌||◌, take}
use Rattle.start_order.specs.Order.{is_before}
use Rattle.switch_names.specs.Names.{Name, has, is_name}
use Rattle.owed_plan.proofs.edges.put_after.Given as goal

abbrev pub invariant-loop-after : goal.invariant-loop-after
invariant-loop-after l = (before after : Name) → is_before l.edges before after ≡ (is_before l.initial.edges before after || (is_name before l.unit && has (take l.after-index l.afters) after))
