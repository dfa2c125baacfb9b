use Rattle.std.proofs.Common.{arith}
use Rattle.std.proofs.lemmas.Grind.{common_steps}
use Rattle.host_trait.proofs.copying.copy_bad.Goals as goal

pub loop-bad-preserved : goal.loop-bad-preserved
loop-bad-preserved c = grind (arith, common_steps)

pub returns : goal.returns
returns c = grind (arith, common_steps)
