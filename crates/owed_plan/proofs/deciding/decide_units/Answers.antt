use Rattle.std.proofs.Common.{ap, filter, map, sym, ◌∙◌}
use Rattle.std.proofs.lemmas.List.{take_all}
use Rattle.host_trait.specs.declared.unit_state.UnitState.{UnitState}
use Rattle.host_trait.specs.Manager.{is_active}
use Rattle.owed_plan.specs.Decisions.{decision_of, situation_of}
use Rattle.owed_plan.proofs.LoopLemmas.{kept_more, kept_same}
use Rattle.owed_plan.proofs.deciding.decide_units.Goals as goal
use Rattle.owed_plan.proofs.deciding.decide_units.Goals.{then-is_active+in_ok-decide_unit+in_ok-push, else-is_active}

pub loop-one-preserved : goal.loop-one-preserved
loop-one-preserved c =
    let items = c.as_slice-one-items.result.now in
    let at = c.loop-one.one-index in
    let one = c.one-item.result in
    elim c.if-is_active.branch [
      | then-is_active+in_ok-decide_unit+in_ok-push w ↦
          (λ i. (w.decisions-is i).items) ∙ kept_more (λ (one : UnitState). is_active one.state) items at one (λ one. decision_of (situation_of c.args.known) one.unit) _ _ _ c.loop-one-test.true c.one-item.is
          (sym c.is_active.ensures ∙ w.if-is_active.true) w.in_ok-decide_unit.ensures w.in_ok-push.ensures.items c.loop-one.invariant
      | else-is_active w ↦
          (λ i. (w.decisions-is i).items) ∙ kept_same (λ (one : UnitState). is_active one.state) items at one (λ one. decision_of (situation_of c.args.known) one.unit) _ c.loop-one-test.true c.one-item.is
          (sym c.is_active.ensures ∙ w.if-is_active.false) c.loop-one.invariant
    ]

pub returns : goal.returns
returns c =
    c.loop-one.invariant
    ∙ ap (λ items. map (λ (one : UnitState). decision_of (situation_of c.args.known) one.unit) (filter (λ one. is_active one.state) items))
    (take_all c.loop-one.one-index c.as_slice-one-items.result.now c.loop-one-test.false ∙ c.as_slice-one-items.ensures ∙ c.list.ensures.list)
