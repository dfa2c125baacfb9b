use Rattle.std.proofs.Common.{◌||◌, ◌&&◌, ap, ◌∙◌}
use Rattle.owed_plan.specs.Decisions.{puts}
use Rattle.switch_names.specs.Names.{has, is_name}
use Rattle.owed_plan.proofs.LoopLemmas.{given_more}
use Rattle.owed_plan.proofs.collecting.add_put.Goals as goal

pub loop-decided-preserved : goal.loop-decided-preserved
loop-decided-preserved c = λ unit.
    given_more (puts c.args.which unit) c.args.decisions.now c.loop-decided.decided-index c.decided-item.result _ (has c.args.set.now unit) (has c.loop-decided.set unit) (has c.add_if.new.set unit)
    c.loop-decided-test.true c.decided-item.is (c.loop-decided.invariant unit)
    (c.in_ok-add_if.ensures unit ∙ ap (λ is. has c.loop-decided.set unit || (is && is_name unit c.decided-item.result.unit)) c.is_put.ensures)
