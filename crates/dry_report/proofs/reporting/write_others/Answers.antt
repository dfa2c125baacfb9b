use Rattle.std.proofs.Common.{arith}
use Rattle.std.proofs.lemmas.Grind.{common_steps}
use Rattle.dry_report.proofs.reporting.write_others.Goals as goal

pub loop-duty-preserved : goal.loop-duty-preserved
loop-duty-preserved c = grind (arith, common_steps)

pub returns : goal.returns
returns c = grind (arith, common_steps)
