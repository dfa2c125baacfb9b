use Rattle.std.proofs.Common.{rules}
use Rattle.switch_run.proofs.status.status_of.Goals as goal

pub returns-in-Ok-true : goal.returns-in-Ok-true
returns-in-Ok-true c = search rules
