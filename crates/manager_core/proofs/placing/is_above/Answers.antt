use Rattle.std.proofs.Common.{rules}
use Rattle.manager_core.proofs.placing.is_above.Goals as goal

pub returns-in-Some : goal.returns-in-Some
returns-in-Some c = search rules steps 300000
