use Rattle.std.proofs.Common.{◌+◌, List, [], ◌∷◌, arith, ap, sym, take, ◌∙◌}
use Rattle.std.specs.List.{filter}
use Rattle.std.proofs.lemmas.List.{map-append}
use Rattle.std.proofs.lemmas.Grind.{common_steps}
use Rattle.host_trait.specs.States.{units_of}
use Rattle.host_trait.specs.declared.unit_state.UnitState.{UnitState}
use Rattle.switch_names.specs.Names.{Name, has}
use Rattle.unit_defs.specs.Defs.{found_in}
use Rattle.owed_plan.specs.Roots.{is_running_target}
use Rattle.owed_plan.proofs.NameSetLemmas.{passed_more, passed_same, set_more, set_same}
use Rattle.owed_plan.proofs.targets.add_running.Goals as goal
use Rattle.owed_plan.proofs.targets.add_running.Goals.{then-is_running_target+in_ok-copy+in_ok-insert, else-is_running_target}

pub loop-unit-preserved : goal.loop-unit-preserved
loop-unit-preserved c = λ name.
    let test = is_running_target (found_in c.args.new.now) in
    let units = c.args.units.now in
    let at = c.loop-unit.unit-index in
    let unit = c.unit-item.result in
    elim c.if-is_running_target.branch [
      | then-is_running_target+in_ok-copy+in_ok-insert w ↦
          ap (λ (names : List Name). has names name) w.roots-is
          ∙ set_more c.args.roots.now c.loop-unit.roots _ (units_of (filter test (take at units))) (units_of (filter test (take (at + 1) units))) unit.unit _ name
          (ap units_of (passed_more units at unit c.loop-unit-test.true c.unit-item.is test (sym c.is_running_target.ensures ∙ w.if-is_running_target.true))
          ∙ map-append (λ (one : UnitState). one.unit) (filter test (take at units)) (unit ∷ []))
          w.in_ok-copy.ensures (w.in_ok-insert.ensures.added name) (c.loop-unit.invariant name)
      | else-is_running_target w ↦
          ap (λ (names : List Name). has names name) w.roots-is
          ∙ set_same c.args.roots.now c.loop-unit.roots (units_of (filter test (take at units))) (units_of (filter test (take (at + 1) units))) name
          (ap units_of (passed_same units at unit c.loop-unit-test.true c.unit-item.is test (sym c.is_running_target.ensures ∙ w.if-is_running_target.false))) (c.loop-unit.invariant name)
    ]

pub returns : goal.returns
returns c = grind (arith, common_steps)
