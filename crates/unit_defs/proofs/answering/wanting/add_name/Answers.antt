use Rattle.std.proofs.Common.{◌∙◌, sym}
use Rattle.unit_defs.specs.Defs.{own_in}
use Rattle.unit_defs.specs.Units.{can_be_wanted}
use Rattle.unit_defs.proofs.NameLemmas.{has_added}
use Rattle.unit_defs.proofs.answering.wanting.add_name.Goals as goal

pub returns-in_ok-insert : goal.returns-in_ok-insert
returns-in_ok-insert c = λ unit.
    has_added c.args.set.now c.args.name unit _ (can_be_wanted (own_in c.args.units.now) c.args.name)
    (sym c.can_be_wanted.ensures ∙ c.if-can_be_wanted.true) (c.in_ok-insert.ensures.added unit)
