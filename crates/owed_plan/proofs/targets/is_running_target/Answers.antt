use Rattle.std.proofs.Common.{rules}
use Rattle.owed_plan.proofs.targets.is_running_target.Goals as goal

pub returns : goal.returns
returns c = search rules steps 300000
