use Rattle.std.proofs.Common.{arith}
use Rattle.std.proofs.lemmas.Grind.{common_steps}
use Rattle.unit_text.proofs.index.Index.add_value.Goals as goal

pub returns-clause-same_values : goal.returns-clause-same_values
returns-clause-same_values c = grind (arith, common_steps)
