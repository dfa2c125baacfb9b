use Rattle.std.proofs.Common.{rules, ap}
use Rattle.std.proofs.lemmas.Result.{on_err_weaker}
use Rattle.manager_core.proofs.stepping.enter.Goals as goal

pub returns-clause-ok : goal.returns-clause-ok
returns-clause-ok c = search rules steps 300000

pub returns-clause-err : goal.returns-clause-err
returns-clause-err c = on_err_weaker c.push.result (λ same. ap (λ js. record c.args.state.now { journal = js }) same) c.push.ensures.err
