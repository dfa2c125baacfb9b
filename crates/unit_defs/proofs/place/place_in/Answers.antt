use Rattle.std.proofs.Common.{sym, ◌∙◌}
use Rattle.std.proofs.lemmas.Result.{IfOk-weaker}
use Rattle.unit_defs.proofs.PlaceLemmas.{placed_below, placed_file, placed_nowhere}
use Rattle.unit_defs.proofs.place.place_in.Goals as goal
use Rattle.switch_names.proofs.Outcomes.{none_left}

pub returns-in-Some : goal.returns-in-Some
returns-in-Some c = placed_file c.args.rest.now c.in-Some.unit (sym c.in-Some.is ∙ c.in_ok-unit.ensures)

pub returns-in-None : goal.returns-in-None
returns-in-None c = placed_nowhere c.args.rest.now (none_left c.in_ok-unit.field-0 c.in_default.not-Some ∙ c.in_ok-unit.ensures) c.in-None.ensures

pub returns-in-Some-split_at_slash : goal.returns-in-Some-split_at_slash
returns-in-Some-split_at_slash c = IfOk-weaker c.place_below.result _ _ (λ place is.
    placed_below c.args.rest.now (none_left c.in_ok-unit.field-0 c.in_default.not-Some ∙ c.in_ok-unit.ensures) c.in-Some-split_at_slash.folder.now c.in-Some-split_at_slash.name.now place
    c.in-Some-split_at_slash.ensures.0 c.in-Some-split_at_slash.ensures.1 c.in-Some-split_at_slash.ensures.2 is) c.place_below.ensures
