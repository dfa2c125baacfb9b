use Rattle.std.proofs.Common.{ap, option_copied, sym, ◌∙◌}
use Rattle.unit_defs.proofs.PlaceLemmas.{no_unit_wanted, no_unit_wants, placed_want}
use Rattle.unit_defs.proofs.place.want.Goals as goal
use Rattle.switch_names.proofs.Outcomes.{none_left}

pub returns : goal.returns
returns c =
    placed_want c.args.end.now c.args.folder.now c.args.name.now c.in-Some.unit.now c.in-Some-2.unit c.in-Some-3.name
    (ap option_copied (sym c.in-Some.is) ∙ c.before_end.ensures) (sym c.in-Some-2.is ∙ c.in_ok-unit.ensures) (sym c.in-Some-3.is ∙ c.in_ok-name.ensures)

pub returns-in_default-2 : goal.returns-in_default-2
returns-in_default-2 c =
    no_unit_wants c.args.end.now c.args.folder.now c.args.name.now c.in-Some.unit.now
    (ap option_copied (sym c.in-Some.is) ∙ c.before_end.ensures) (none_left c.in_ok-unit.field-0 c.in_default-2.not-Some ∙ c.in_ok-unit.ensures)

pub returns-in_default-3 : goal.returns-in_default-3
returns-in_default-3 c =
    no_unit_wanted c.args.end.now c.args.folder.now c.args.name.now c.in-Some.unit.now
    (ap option_copied (sym c.in-Some.is) ∙ c.before_end.ensures) (none_left c.in_ok-name.field-0 c.in_default-3.not-Some ∙ c.in_ok-name.ensures)
