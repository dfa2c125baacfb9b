use Rattle.unit_text.proofs.IndexLemmas.{copied_more}
use Rattle.unit_text.proofs.unit_text.UnitText.push_all.Goals as goal

pub loop-assignment-preserved : goal.loop-assignment-preserved
loop-assignment-preserved c =
    copied_more c.args.self.now c.args.assignments.now c.loop-assignment.assignment-index c.assignment-item.result _ c.loop-assignment.self _ c.loop-assignment-test.true c.assignment-item.is
    c.loop-assignment.invariant c.in_ok-copy.ensures c.in_ok-push.ensures.ok
