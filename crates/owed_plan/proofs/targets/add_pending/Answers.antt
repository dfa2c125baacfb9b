use Rattle.std.proofs.Common.{◌+◌, List, arith, ap, sym, take, ◌∙◌}
use Rattle.std.specs.List.{filter}
use Rattle.std.proofs.lemmas.Grind.{common_steps}
use Rattle.switch_names.specs.Names.{Name, has}
use Rattle.unit_defs.specs.Defs.{found_in}
use Rattle.owed_plan.specs.Roots.{is_defined_target}
use Rattle.owed_plan.proofs.NameSetLemmas.{passed_more, passed_same, set_more, set_same}
use Rattle.owed_plan.proofs.targets.add_pending.Goals as goal
use Rattle.owed_plan.proofs.targets.add_pending.Goals.{then-is_defined_target+in_ok-copy+in_ok-insert, else-is_defined_target}

pub loop-unit-preserved : goal.loop-unit-preserved
loop-unit-preserved c = λ name.
    let test = is_defined_target (found_in c.args.new.now) in
    let units = c.args.units.now in
    let at = c.loop-unit.unit-index in
    let unit = c.unit-item.result in
    elim c.if-is_defined_target.branch [
      | then-is_defined_target+in_ok-copy+in_ok-insert w ↦
          ap (λ (names : List Name). has names name) w.roots-is
          ∙ set_more c.args.roots.now c.loop-unit.roots _ (filter test (take at units)) (filter test (take (at + 1) units)) unit _ name
          (passed_more units at unit c.loop-unit-test.true c.unit-item.is test (sym c.is_defined_target.ensures ∙ w.if-is_defined_target.true))
          w.in_ok-copy.ensures (w.in_ok-insert.ensures.added name) (c.loop-unit.invariant name)
      | else-is_defined_target w ↦
          ap (λ (names : List Name). has names name) w.roots-is
          ∙ set_same c.args.roots.now c.loop-unit.roots (filter test (take at units)) (filter test (take (at + 1) units)) name
          (passed_same units at unit c.loop-unit-test.true c.unit-item.is test (sym c.is_defined_target.ensures ∙ w.if-is_defined_target.false)) (c.loop-unit.invariant name)
    ]

pub returns : goal.returns
returns c = grind (arith, common_steps)
