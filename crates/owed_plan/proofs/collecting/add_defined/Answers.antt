use Rattle.std.proofs.Common.{arith}
use Rattle.std.proofs.lemmas.Grind.{common_steps}
use Rattle.owed_plan.specs.Decisions.{situation_of}
use Rattle.switch_names.specs.Names.{Name}
use Rattle.owed_plan.proofs.LoopLemmas.{added_more}
use Rattle.owed_plan.proofs.collecting.add_defined.Goals as goal

pub loop-name-preserved : goal.loop-name-preserved
loop-name-preserved c = λ unit.
    added_more (λ (name : Name). ((situation_of c.args.known).systems.facts name).in_new) c.args.names.now c.loop-name.name-index c.name-item.result
    c.args.set.now c.loop-name.set c.add_if.new.set c.is_defined.result unit c.loop-name-test.true c.name-item.is c.is_defined.ensures (c.loop-name.invariant unit) (c.in_ok-add_if.ensures unit)

pub returns : goal.returns
returns c = grind (arith, common_steps)
