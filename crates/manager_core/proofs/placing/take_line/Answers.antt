use Rattle.std.proofs.Common.{◌∙◌, sym, ap, false}
use Rattle.std.proofs.lemmas.Bool.{both_ways}
use Rattle.std.specs.Option.{option_map_or}
use Rattle.manager_core.specs.Placing.{added, may_stand, stands}
use Rattle.manager_core.proofs.placing.take_line.Goals as goal

pub returns-in_ok-add-in-Some-clause-new : goal.returns-in_ok-add-in-Some-clause-new
returns-in_ok-add-in-Some-clause-new c = λ is.
    c.in_ok-add-in-Some.ensures ∙ sym (ap (λ o. option_map_or (λ says. added says c.args.state.now) o c.args.state.now) (sym c.in_ok-line.ensures ∙ c.in-Some.is))

pub returns-then-not-may_stand-clause-new : goal.returns-then-not-may_stand-clause-new
returns-then-not-may_stand-clause-new c = λ is. absurd (both_ways (stands c.args.state.now c.args.line.now)
    (ap (λ o. option_map_or (λ says. may_stand says c.args.state.now) o false) (sym c.in_ok-line.ensures ∙ c.in-Some.is) ∙ sym c.may_stand.ensures ∙ c.if-not-may_stand.true) is)
