use Rattle.std.proofs.Common.{arith}
use Rattle.unit_defs.specs.Defs.{own_in}
use Rattle.unit_defs.specs.Units.{can_be_wanted}
use Rattle.unit_defs.proofs.NameLemmas.{has_name_more}
use Rattle.std.proofs.lemmas.Grind.{common_steps}
use Rattle.unit_defs.proofs.answering.wanting.add_names.Goals as goal

pub loop-name-preserved : goal.loop-name-preserved
loop-name-preserved c = λ unit.
    has_name_more (can_be_wanted (own_in c.args.units.now)) unit c.args.names.now c.loop-name.name-index c.name-item.result c.in_ok-copy.field-0 _ _ _
    c.loop-name-test.true c.name-item.is c.in_ok-copy.ensures (c.loop-name.invariant unit) (c.in_ok-add_name.ensures unit)

pub returns : goal.returns
returns c = grind (arith, common_steps)
