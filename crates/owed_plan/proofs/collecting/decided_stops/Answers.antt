use Rattle.std.proofs.Common.{false}
use Rattle.owed_plan.specs.Decisions.{situation_of, stops}
use Rattle.switch_names.specs.Names.{has}
use Rattle.owed_plan.proofs.LoopLemmas.{given_more}
use Rattle.owed_plan.proofs.collecting.decided_stops.Goals as goal

pub loop-decided-preserved : goal.loop-decided-preserved
loop-decided-preserved c = λ unit.
    given_more (stops (situation_of c.args.known) unit) c.args.decisions.now c.loop-decided.decided-index c.decided-item.result _ false (has c.loop-decided.set unit) (has c.add_stops.new.set unit)
    c.loop-decided-test.true c.decided-item.is (c.loop-decided.invariant unit) (c.in_ok-add_stops.ensures unit)
