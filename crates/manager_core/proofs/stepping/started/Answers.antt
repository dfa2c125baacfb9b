use Rattle.std.proofs.Common.{rules}
use Rattle.manager_core.proofs.stepping.started.Goals as goal

pub returns-in-Active : goal.returns-in-Active
returns-in-Active c = search rules steps 300000
