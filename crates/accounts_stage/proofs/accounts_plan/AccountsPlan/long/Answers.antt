use Rattle.std.proofs.Common.{◌≡◌, None, ap, ◌∙◌}
use Rattle.std.proofs.lemmas.Result.{IfOk-weaker}
use Rattle.switch_parts.specs.Puts.{long_with}
use Rattle.accounts_stage.specs.AccountsPart.{accounts_long}
use Rattle.accounts_stage.proofs.PuttingLemmas.{plan_long}
use Rattle.accounts_stage.proofs.accounts_plan.AccountsPlan.long.Goals as goal

pub returns : goal.returns
returns c system leaves is =
    let last = c.in_ok-last.last in
    IfOk-weaker c.long_with-2.result (λ long. long ≡ long_with last c.as_slice-2.result.now) (λ long. long ≡ accounts_long system leaves)
    (λ long put. plan_long system leaves c.args.self.now is last long (c.in_ok-last.ensures ∙ ap (long_with None) c.as_slice.ensures) (put ∙ ap (long_with last) c.as_slice-2.ensures))
    c.long_with-2.ensures
