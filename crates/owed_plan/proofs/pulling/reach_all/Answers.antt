use Rattle.std.proofs.Common.{◌+◌, refl, take, arith}
use Rattle.std.proofs.lemmas.Grind.{common_steps}
use Rattle.owed_plan.proofs.NameSetLemmas.{left_more, one_more, same_count, set_more}
use Rattle.owed_plan.proofs.pulling.reach_all.Goals as goal

pub loop-unit-preserved : goal.loop-unit-preserved
loop-unit-preserved c =
    let units = c.args.units.now in
    let at = c.loop-unit.unit-index in
    let grown = one_more units at c.unit-item.result c.loop-unit-test.true c.unit-item.is in (
      λ name. set_more c.args.reached.now c.loop-unit.reached c.reach.new.reached (take at units) (take (at + 1) units) c.unit-item.result c.unit-item.result name grown refl
          (c.in_ok-reach.ensures.added name) (c.loop-unit.invariant.0 name),
      λ name. left_more c.args.reached.now c.args.left.now.items c.loop-unit.reached c.loop-unit.left.items c.reach.new.left.items (take at units) (take (at + 1) units) c.unit-item.result name grown
          (c.in_ok-reach.ensures.pushed name) (c.loop-unit.invariant.0 name) (c.loop-unit.invariant.1 name),
      same_count _ _ _ _ _ _ c.loop-unit.invariant.2 c.in_ok-reach.ensures.as_many,
    )

pub returns-clause-pushed : goal.returns-clause-pushed
returns-clause-pushed c = grind (arith, common_steps)

pub returns-clause-added : goal.returns-clause-added
returns-clause-added c = grind (arith, common_steps)
