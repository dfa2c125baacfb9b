use Rattle.std.proofs.Common.{◌∙◌}
use Rattle.unit_compare.specs.Walk.{key_comparison}
use Rattle.unit_compare.proofs.walk.compare_key.Goals as goal

pub returns : goal.returns
returns c = λ o n of_old of_new. c.compare_values.ensures ∙ (λ i. key_comparison c.args.kind c.args.key.now (c.values.ensures o of_old i) (c.values-2.ensures n of_new i))
