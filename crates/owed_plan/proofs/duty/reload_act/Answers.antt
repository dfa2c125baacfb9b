use Rattle.std.proofs.Common.{rules}
use Rattle.owed_plan.proofs.duty.reload_act.Goals as goal

pub returns-then-not-is_stopped : goal.returns-then-not-is_stopped
returns-then-not-is_stopped c = search rules
