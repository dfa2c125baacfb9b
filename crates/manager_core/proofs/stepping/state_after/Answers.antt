use Rattle.std.proofs.Common.{rules}
use Rattle.manager_core.proofs.stepping.state_after.Goals as goal

pub returns-in-Restart : goal.returns-in-Restart
returns-in-Restart c = search rules steps 300000

pub returns-in-Reload : goal.returns-in-Reload
returns-in-Reload c = search rules steps 300000
