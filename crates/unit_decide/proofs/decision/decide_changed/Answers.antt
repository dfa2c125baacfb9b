use Rattle.std.proofs.Common.{rules}
use Rattle.unit_decide.specs.Decision.{decide}
use Rattle.unit_decide.proofs.decision.decide_changed.Goals as goal

pub returns-then-is_mount : goal.returns-then-is_mount
unfolding decide
returns-then-is_mount c = search rules steps 300000

pub returns-else-live : goal.returns-else-live
unfolding decide
returns-else-live c = search rules steps 300000
