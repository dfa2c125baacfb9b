use Rattle.std.proofs.Common.{arith}
use Rattle.std.proofs.lemmas.Grind.{common_steps}
use Rattle.switch_names.proofs.listed.Listed.remove.Goals as goal

pub returns-clause-rest : goal.returns-clause-rest
returns-clause-rest c d = grind (arith, common_steps)
