use Rattle.std.proofs.Common.{sym, ◌∙◌}
use Rattle.start_order.proofs.OrderLemmas.{never_both}
use Rattle.start_order.proofs.TakeLemmas.{first_is, stuck_by_none, stuck_by_some}
use Rattle.start_order.proofs.breaking.stuck_unit.Goals as goal

pub returns-then-is_empty : goal.returns-then-is_empty
returns-then-is_empty c =
    first_is (λ name. name.now) c.args.left.now.keys c.first.result c.first.ensures.variant c.first.ensures.first
    ∙ sym (stuck_by_none c.args._edges.now c.args.left.now.keys c.args.free.now.keys c.requires.left c.requires.free c.requires.are (c.is_empty.ensures.0 c.if-is_empty.true))

pub returns-else-is_empty : goal.returns-else-is_empty
returns-else-is_empty c =
    sym (stuck_by_some c.args._edges.now c.args.left.now.keys c.args.free.now.keys c.requires.left c.requires.free c.requires.are
    (λ none. never_both c.is_empty.result (c.is_empty.ensures.1 none) c.if-is_empty.false))
