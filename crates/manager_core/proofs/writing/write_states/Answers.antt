use Rattle.manager_core.specs.declared.line.Line.TheVariants as line
use Rattle.manager_core.proofs.Written.{all_written, one_written}
use Rattle.manager_core.proofs.writing.write_states.Goals as goal

pub loop-one-preserved : goal.loop-one-preserved
loop-one-preserved c =
    one_written line.State c.args.units.now c.loop-one.one-index c.one-item.result _ _ _ c.loop-one-test.true c.one-item.is c.in_ok-write_state_of.ensures.text c.loop-one.invariant

pub returns : goal.returns
returns c = all_written line.State c.args.units.now c.loop-one.one-index _ _ c.loop-one-test.false c.loop-one.invariant
