use Rattle.std.proofs.Common.{arith}
use Rattle.std.proofs.lemmas.Grind.{common_steps}
use Rattle.unit_text.proofs.lines.is_comment.Goals as goal

pub loop-byte-preserved : goal.loop-byte-preserved
loop-byte-preserved c = grind (arith, common_steps)

pub returns-else-byte-eq35 : goal.returns-else-byte-eq35
returns-else-byte-eq35 c = grind (arith, common_steps)

pub returns-then-byte-eq35 : goal.returns-then-byte-eq35
returns-then-byte-eq35 c = grind (arith, common_steps)

pub returns : goal.returns
returns c = grind (arith, common_steps)
