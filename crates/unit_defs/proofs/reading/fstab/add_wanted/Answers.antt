use Rattle.std.proofs.Common.{None, sym, ◌∙◌}
use Rattle.std.proofs.lemmas.Result.{on_ok_weaker}
use Rattle.unit_defs.proofs.FstabLemmas.{joins_unwanted, joins_wanted}
use Rattle.unit_defs.proofs.reading.fstab.add_wanted.Goals as goal
use Rattle.switch_names.proofs.Outcomes.{none_left}

pub returns-in_default : goal.returns-in_default
returns-in_default c = joins_unwanted c.args.line.now c.args.found.now (none_left c.in_ok-target.field-0 c.in_default.not-Some ∙ c.in_ok-target.ensures)

pub returns : goal.returns
returns c = on_ok_weaker c.add_want.result (λ takes.
    joins_wanted c.args.line.now c.in-Some.target c.in_ok-copy.field-0 c.args.found.now c.add_want.new.self (sym c.in-Some.is ∙ c.in_ok-target.ensures) c.in_ok-copy.ensures (takes None))
    c.add_want.ensures
