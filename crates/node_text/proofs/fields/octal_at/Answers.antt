use Rattle.std.proofs.Common.{arith, rules}
use Rattle.std.proofs.lemmas.Grind.{common_steps}
use Rattle.node_text.proofs.fields.octal_at.Goals as goal

pub returns-in-len1-up-clause-read : goal.returns-in-len1-up-clause-read
returns-in-len1-up-clause-read c = grind (arith, common_steps) steps 500000

pub returns-in-len1-up-clause-low : goal.returns-in-len1-up-clause-low
returns-in-len1-up-clause-low c = search rules steps 500000
