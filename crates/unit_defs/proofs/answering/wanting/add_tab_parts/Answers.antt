use Rattle.std.proofs.Common.{arith}
use Rattle.unit_defs.specs.Defs.{own_in}
use Rattle.unit_defs.specs.Units.{can_be_wanted}
use Rattle.unit_defs.proofs.NameLemmas.{has_one_more}
use Rattle.std.proofs.lemmas.Grind.{common_steps}
use Rattle.unit_defs.proofs.answering.wanting.add_tab_parts.Goals as goal

pub loop-part-preserved : goal.loop-part-preserved
loop-part-preserved c = λ unit.
    has_one_more (can_be_wanted (own_in c.args.units.now)) unit c.as_slice-part-items.result.now c.loop-part.part-index _ _ _ _ c.loop-part-test.true (c.loop-part.invariant unit) (c.in_ok-add_word.ensures unit)

pub returns : goal.returns
returns c = grind (arith, common_steps)
