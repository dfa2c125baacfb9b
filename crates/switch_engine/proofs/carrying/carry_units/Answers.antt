use Rattle.std.proofs.Common.{◌↔◌, IfOk, IsSome, IsTrue, None, Option, OnOk, Some, false, refl, sym, ap, subst, ◌∙◌}
use Rattle.std.proofs.lemmas.Bool.{both_ways}
use Rattle.std.proofs.lemmas.Result.{on_ok_weaker}
use Rattle.host_trait.specs.Host.{Leads, Passes, Told}
use Rattle.host_trait.proofs.Moments.{started}
use Rattle.owed_log.specs.Writing.{IsFilled}
use Rattle.switch_engine.specs.declared.plan.SwitchPlan.{SwitchPlan}
use Rattle.switch_engine.specs.Carried.{CanSwitchBy, IsSwitchMomentBy, IsSwitchedBy}
use Rattle.switch_engine.specs.Final.{HasFailed}
use Rattle.switch_engine.specs.Plan.{units_in, units_of}
use Rattle.switch_engine.specs.Quiet.{IsQuietSwitch}
use Rattle.switch_engine.proofs.CarryLemmas.{none_failed}
use Rattle.switch_names.specs.Names.{Name}
use Rattle.unit_stage.specs.System.{system_leaf}
use Rattle.switch_engine.proofs.carrying.carry_units.Goals as goal

pub carry_switch-requires-clause-can : goal.carry_switch-requires-clause-can
carry_switch-requires-clause-can g c =
    subst (λ (system : Name). Told (g.H.Tree.host c.args.host.now) (CanSwitchBy system (Some c.in-Some.switch))) (sym c.to.ensures)
    (subst (λ (plan : Option SwitchPlan). Told (g.H.Tree.host c.args.host.now) (CanSwitchBy c.args.plan.now.row.system plan)) c.in-Some.is c.requires.can)

pub carry_switch-requires-clause-filled : goal.carry_switch-requires-clause-filled
carry_switch-requires-clause-filled g c = subst (λ (plan : Option SwitchPlan). IsFilled (units_in plan c.args.plan.now.nothing).write) c.in-Some.is c.requires.sound.filled

pub carry_switch-requires-clause-current : goal.carry_switch-requires-clause-current
carry_switch-requires-clause-current g c = c.requires.current ∙ ap system_leaf (sym c.to.ensures)

pub returns-in-Some-clause-ok : goal.returns-in-Some-clause-ok
returns-in-Some-clause-ok g c =
    subst (λ (plan : Option SwitchPlan). OnOk c.carry_switch.result (Leads (g.H.Tree.host c.args.host.now) (g.H.Tree.host c.carry_switch.new.host) (IsSwitchedBy c.args.plan.now.row.system plan))) (sym c.in-Some.is)
    (subst (λ (system : Name). OnOk c.carry_switch.result (Leads (g.H.Tree.host c.args.host.now) (g.H.Tree.host c.carry_switch.new.host) (IsSwitchedBy system (Some c.in-Some.switch)))) c.to.ensures c.carry_switch.ensures.ok)

pub returns-in-Some-clause-moments : goal.returns-in-Some-clause-moments
returns-in-Some-clause-moments g c =
    subst (λ (plan : Option SwitchPlan). Passes (g.H.Tree.host c.args.host.now) (g.H.Tree.host c.carry_switch.new.host) (IsSwitchMomentBy c.args.plan.now.row.system plan)) (sym c.in-Some.is)
    (subst (λ (system : Name). Passes (g.H.Tree.host c.args.host.now) (g.H.Tree.host c.carry_switch.new.host) (IsSwitchMomentBy system (Some c.in-Some.switch))) c.to.ensures c.carry_switch.ensures.moments)

pub returns-in-Some-clause-quiet : goal.returns-in-Some-clause-quiet
returns-in-Some-clause-quiet g c =
    on_ok_weaker c.carry_switch.result
    (λ led some. subst (λ (system : Name). Leads (g.H.Tree.host c.args.host.now) (g.H.Tree.host c.carry_switch.new.host) (IsQuietSwitch system)) c.to.ensures led)
    c.carry_switch.ensures.quiet

pub returns-in-Some-clause-failed : goal.returns-in-Some-clause-failed
returns-in-Some-clause-failed g c =
    subst (λ (plan : Option SwitchPlan). IfOk c.carry_switch.result (λ outcome. IsTrue outcome.failed ↔ HasFailed (units_in plan c.args.plan.now.nothing).defs outcome.states)) (sym c.in-Some.is) c.carry_switch.ensures.failed

pub returns-in-None-clause-ok : goal.returns-in-None-clause-ok
returns-in-None-clause-ok g c =
    subst (λ (plan : Option SwitchPlan). Leads (g.H.Tree.host c.args.host.now) (g.H.Tree.host c.args.host.now) (IsSwitchedBy c.args.plan.now.row.system plan)) (sym c.in-None.is)
    (record { to = λ w is. (w, is, refl) })

pub returns-in-None-clause-moments : goal.returns-in-None-clause-moments
returns-in-None-clause-moments g c =
    subst (λ (plan : Option SwitchPlan). Passes (g.H.Tree.host c.args.host.now) (g.H.Tree.host c.args.host.now) (IsSwitchMomentBy c.args.plan.now.row.system plan)) (sym c.in-None.is)
    (started (IsSwitchMomentBy c.args.plan.now.row.system None) (λ w is. refl))

pub returns-in-None-clause-quiet : goal.returns-in-None-clause-quiet
returns-in-None-clause-quiet g c some = absurd (both_ways false refl (subst (λ (plan : Option SwitchPlan). IsSome plan) c.in-None.is some))

pub returns-in-None-clause-failed : goal.returns-in-None-clause-failed
returns-in-None-clause-failed g c = none_failed (units_of c.args.plan.now).defs c.none.result c.none.ensures
