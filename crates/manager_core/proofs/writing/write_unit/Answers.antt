use Rattle.std.proofs.Common.{arith}
use Rattle.std.proofs.lemmas.Grind.{common_steps}
use Rattle.manager_core.proofs.Results.{on_ok_always}
use Rattle.manager_core.proofs.writing.write_unit.Goals as goal

pub returns-clause-text : goal.returns-clause-text
returns-clause-text c = grind (arith, common_steps)

pub returns-clause-name : goal.returns-clause-name
returns-clause-name c = on_ok_always c.extend_from_slice-2.result _ c.as_str.ensures.is_name
