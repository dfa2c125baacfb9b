use Rattle.std.proofs.Common.{rules}
use Rattle.owed_plan.proofs.targets.may_run.Goals as goal

pub returns-in-Some : goal.returns-in-Some
returns-in-Some c = search rules steps 300000
