use Rattle.std.proofs.lemmas.Result.{IfOk-weaker}
use Rattle.unit_stage.proofs.LogLemmas.{planned_log}
use Rattle.unit_stage.proofs.unit_plan.UnitPlan.long_log.Goals as goal

pub returns : goal.returns
returns c = IfOk-weaker c.long_log.result _ _ (λ long told start_up w system is. planned_log start_up w system c.args.self.now long is told) c.long_log.ensures
