use Rattle.std.proofs.Common.{ap, ◌∙◌}
use Rattle.std.proofs.lemmas.Result.{IfOk-weaker}
use Rattle.switch_parts.specs.Puts.{long_with}
use Rattle.etc_farm.proofs.LongLemmas.{plan_long}
use Rattle.etc_farm.proofs.etc_plan.EtcPlan.long.Goals as goal

pub returns : goal.returns
returns c system leaves is =
    IfOk-weaker c.long_with.result _ _
    (λ long told. told ∙ ap (λ found. long_with found c.first.result.now) c.in_ok-last.ensures ∙ plan_long system leaves c.args.self.now is c.last.result.now c.first.result.now c.last.ensures.last c.first.ensures.first)
    c.long_with.ensures
