use Rattle.std.proofs.Common.{length, ◌==◌, ap, sym, ◌∙◌}
use Rattle.std.proofs.lemmas.Bool.{both_ways}
use Rattle.std.proofs.lemmas.Result.{IfOk-weaker}
use Rattle.switch_run.proofs.TextLemmas.{filled_key}
use Rattle.switch_run.proofs.refusal_text.key_text.Goals as goal

pub returns : goal.returns
returns c = IfOk-weaker c.keyed_text.result _ _ (λ text is. is ∙ sym (filled_key c.args.place c.args.key.now (λ empty. both_ways c.is_empty.result c.if-is_empty.false (c.is_empty.ensures ∙ ap (λ key. length key == 0) empty)))) c.keyed_text.ensures
