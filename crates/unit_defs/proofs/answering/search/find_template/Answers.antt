use Rattle.std.proofs.Common.{rules, arith}
use Rattle.std.proofs.lemmas.Grind.{common_steps}
use Rattle.unit_defs.proofs.answering.search.find_template.Goals as goal

pub returns : goal.returns
returns c = search rules

pub returns-in_err-before : goal.returns-in_err-before
returns-in_err-before c = grind (arith, common_steps)
