use Rattle.std.proofs.Common.{arith}
use Rattle.std.proofs.lemmas.Grind.{common_steps}
use Rattle.unit_text.proofs.index.Index.insert.Goals as goal

pub returns-in-Err-clause-same_values : goal.returns-in-Err-clause-same_values
returns-in-Err-clause-same_values c = grind (arith, common_steps)
