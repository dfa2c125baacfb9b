use Rattle.std.proofs.Common.{arith}
use Rattle.std.proofs.lemmas.Grind.{common_steps}
use Rattle.owed_plan.specs.Collected.{comes_up_by}
use Rattle.owed_plan.specs.Decisions.{situation_of}
use Rattle.switch_names.specs.Names.{has}
use Rattle.owed_plan.proofs.LoopLemmas.{added_more}
use Rattle.owed_plan.proofs.touched.add_pulled.Goals as goal

pub loop-unit-preserved : goal.loop-unit-preserved
loop-unit-preserved c = λ unit.
    added_more (comes_up_by (situation_of c.args.known) c.args.touched.stops.now (has c.args.touched.listed.now)) c.args.pulled.now c.loop-unit.unit-index c.unit-item.result
    c.args.set.now c.loop-unit.set c.add_if.new.set c.in_ok-is_started.is_started unit c.loop-unit-test.true c.unit-item.is c.in_ok-is_started.ensures (c.loop-unit.invariant unit) (c.in_ok-add_if.ensures unit)

pub returns : goal.returns
returns c = grind (arith, common_steps)
