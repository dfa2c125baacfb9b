use Rattle.std.proofs.Common.{arith}
use Rattle.std.proofs.lemmas.Grind.{common_steps}
use Rattle.switch_names.proofs.unit_name.template_text.Goals as goal

pub returns : goal.returns
returns c = grind (arith, common_steps)
