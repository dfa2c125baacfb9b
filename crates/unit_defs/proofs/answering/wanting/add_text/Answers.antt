use Rattle.std.proofs.Common.{ap}
use Rattle.std.specs.Option.{option_copied}
use Rattle.std.proofs.lemmas.Result.{on_ok_weaker}
use Rattle.unit_defs.specs.Defs.{own_in}
use Rattle.unit_defs.specs.Units.{can_be_wanted}
use Rattle.unit_defs.proofs.WantLemmas.{adds_both, adds_nothing}
use Rattle.unit_defs.proofs.answering.wanting.add_text.Goals as goal

pub returns-in_default : goal.returns-in_default
returns-in_default c = λ unit. adds_nothing (can_be_wanted (own_in c.args.units.now)) (option_copied c.args.text) unit _ (ap option_copied c.in_default.is)

pub returns : goal.returns
returns c = on_ok_weaker c.add_values-2.result (λ second. λ unit.
    adds_both (can_be_wanted (own_in c.args.units.now)) (option_copied c.args.text) c.in-Some.text.now c.values.result.now c.values-2.result.now unit _ _ _
    (ap option_copied c.in-Some.is) c.values.ensures c.values-2.ensures (c.in_ok-add_values.ensures unit) (second unit)) c.add_values-2.ensures
