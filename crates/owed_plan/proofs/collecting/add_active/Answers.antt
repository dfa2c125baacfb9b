use Rattle.host_trait.specs.Manager.{is_active}
use Rattle.owed_plan.specs.Decisions.{situation_of}
use Rattle.switch_names.specs.Names.{Name}
use Rattle.owed_plan.proofs.LoopLemmas.{added_more}
use Rattle.owed_plan.proofs.collecting.add_active.Goals as goal

pub loop-name-preserved : goal.loop-name-preserved
loop-name-preserved c = λ unit.
    added_more (λ (name : Name). is_active ((situation_of c.args.known).states name)) c.args.names.now c.loop-name.name-index c.name-item.result
    c.args.set.now c.loop-name.set c.add_if.new.set c.is_active.result unit c.loop-name-test.true c.name-item.is c.is_active.ensures (c.loop-name.invariant unit) (c.in_ok-add_if.ensures unit)
