use Rattle.std.proofs.Common.{rules}
use Rattle.switch_run.proofs.asked.command_for.Goals as goal

pub returns-then-eq-4 : goal.returns-then-eq-4
returns-then-eq-4 c = search rules steps 300000
