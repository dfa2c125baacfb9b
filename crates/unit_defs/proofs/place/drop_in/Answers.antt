use Rattle.std.proofs.Common.{ap, option_copied, sym, ◌∙◌}
use Rattle.unit_defs.proofs.PlaceLemmas.{no_drop_in, placed_drop_in}
use Rattle.unit_defs.proofs.place.drop_in.Goals as goal
use Rattle.switch_names.proofs.Outcomes.{none_left}

pub returns : goal.returns
returns c =
    placed_drop_in c.args.folder.now c.args.name.now c.in-Some.unit.now c.in-Some-before_end.stem.now c.in-Some-2.unit c.in_ok-from_str.field-0 c.is_drop_in_name.result
    (ap option_copied (sym c.in-Some.is) ∙ c.before_end.ensures) (ap option_copied (sym c.in-Some-before_end.is) ∙ c.before_end-2.ensures) c.is_drop_in_name.ensures c.if-not-is_drop_in_name.false
    (sym c.in-Some-2.is ∙ c.in_ok-unit.ensures) c.in_ok-from_str.ensures

pub returns-in_default-2 : goal.returns-in_default-2
returns-in_default-2 c =
    no_drop_in c.args.folder.now c.args.name.now c.in-Some.unit.now c.in-Some-before_end.stem.now
    (ap option_copied (sym c.in-Some.is) ∙ c.before_end.ensures) (ap option_copied (sym c.in-Some-before_end.is) ∙ c.before_end-2.ensures) (none_left c.in_ok-unit.field-0 c.in_default-2.not-Some ∙ c.in_ok-unit.ensures)
