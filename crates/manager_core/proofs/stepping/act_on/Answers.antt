use Rattle.std.proofs.Common.{arith, sym}
use Rattle.std.proofs.lemmas.Grind.{common_steps}
use Rattle.manager_core.proofs.Results.{on_err_of_ok, on_ok_of_err}
use Rattle.manager_core.proofs.stepping.act_on.Goals as goal

pub returns-then-is_err-clause-err : goal.returns-then-is_err-clause-err
returns-then-is_err-clause-err c = grind (arith, common_steps) steps 3000000

pub remove-entry-requires : goal.remove-entry-requires
remove-entry-requires c = grind (arith, common_steps)

pub returns-then-is_err-clause-ok : goal.returns-then-is_err-clause-ok
returns-then-is_err-clause-ok c = on_ok_of_err c.take_effect-effect.result _ (sym c.if-is_err.ensures.value)

pub returns-else-is_err-clause-ok : goal.returns-else-is_err-clause-ok
returns-else-is_err-clause-ok c = grind (arith, common_steps)

pub returns-else-is_err-clause-err : goal.returns-else-is_err-clause-err
returns-else-is_err-clause-err c = on_err_of_ok c.take_effect-effect.result _ (sym c.if-is_err.ensures.value)
