use Rattle.std.proofs.Common.{rules, arith}
use Rattle.std.proofs.lemmas.Grind.{common_steps}
use Rattle.node_text.specs.Fields.{target_at}
use Rattle.node_text.proofs.fields.target_at.Goals as goal

pub returns-then-len-gt-TARGET_MAX : goal.returns-then-len-gt-TARGET_MAX
unfolding target_at
returns-then-len-gt-TARGET_MAX c = search rules steps 500000

pub returns-in-Some-eq10 : goal.returns-in-Some-eq10
unfolding target_at
returns-in-Some-eq10 c = grind (arith, common_steps) steps 500000
