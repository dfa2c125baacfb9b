use Rattle.std.proofs.Common.{arith}
use Rattle.unit_defs.specs.Defs.{wants_for}
use Rattle.unit_defs.proofs.NameLemmas.{mapped_more}
use Rattle.std.proofs.lemmas.Grind.{common_steps}
use Rattle.unit_defs.proofs.SearchLemmas.{stands_in}
use Rattle.unit_defs.proofs.answering.wanting.wants_of.Goals as goal

pub wants_for-requires-clause-stands : goal.wants_for-requires-clause-stands
wants_for-requires-clause-stands c = stands_in c.args.units.now c.loop-unit.unit-index c.unit-item.result c.requires c.loop-unit-test.true c.unit-item.is

pub loop-unit-preserved : goal.loop-unit-preserved
loop-unit-preserved c =
    mapped_more (wants_for c.args.units.now) c.args.units.now c.loop-unit.unit-index c.unit-item.result c.in_ok-wants_for.field-0 c.loop-unit.wants c.push.new.self
    c.loop-unit-test.true c.unit-item.is c.in_ok-wants_for.ensures c.loop-unit.invariant c.in_ok-push.ensures.ok

pub returns : goal.returns
returns c = grind (arith, common_steps)
