use Rattle.std.proofs.lemmas.Grind.{common_steps}
use Rattle.std.proofs.Common.{rules, arith}
use Rattle.manager_core.proofs.stepping.step.Goals as goal

pub returns-in-Halt-clause-ok : goal.returns-in-Halt-clause-ok
returns-in-Halt-clause-ok c = search rules steps 300000

pub returns-in-Stop-clause-ok : goal.returns-in-Stop-clause-ok
returns-in-Stop-clause-ok c = search rules steps 300000

pub returns-in-Start-clause-plain : goal.returns-in-Start-clause-plain
returns-in-Start-clause-plain c = grind (arith, common_steps) steps 500000

pub returns-in-Restart-clause-plain : goal.returns-in-Restart-clause-plain
returns-in-Restart-clause-plain c = grind (arith, common_steps) steps 500000

pub returns-in-Reload-clause-plain : goal.returns-in-Reload-clause-plain
returns-in-Reload-clause-plain c = grind (arith, common_steps) steps 500000

pub returns-in-Stop-clause-plain : goal.returns-in-Stop-clause-plain
returns-in-Stop-clause-plain c = grind (arith, common_steps) steps 500000
