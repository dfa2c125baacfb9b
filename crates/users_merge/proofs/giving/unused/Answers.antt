use Rattle.std.proofs.Common.{ap, ◌∙◌}
use Rattle.std.specs.FinMap.{get}
use Rattle.users_merge.proofs.GivingLemmas.{free_known, used_known}
use Rattle.users_merge.proofs.giving.unused.Goals as goal

pub returns-then-is_used : goal.returns-then-is_used
returns-then-is_used c = λ used marked are.
    used_known used c.in_ok-id.id _ c.is_used.result (c.in_ok-id.ensures.id ∙ ap (get c.args.known.now) c.as_str.ensures) (c.is_used.ensures used marked are) c.if-is_used.true

pub returns-else-is_used : goal.returns-else-is_used
returns-else-is_used c = λ used marked are.
    free_known used c.in_ok-id.id _ c.is_used.result (c.in_ok-id.ensures.id ∙ ap (get c.args.known.now) c.as_str.ensures) (c.is_used.ensures used marked are) c.if-is_used.false
