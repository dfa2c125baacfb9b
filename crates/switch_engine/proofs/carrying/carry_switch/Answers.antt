use Rattle.std.proofs.Common.{List, sym, subst, ◌≡◌, ◌↔◌, IsTrue, ap, ◌∙◌}
use Rattle.std.proofs.lemmas.Result.{err_from_is_err_and}
use Rattle.host_trait.specs.Change.{IsSame}
use Rattle.host_trait.specs.Host.{HostState, Passes}
use Rattle.host_trait.specs.World.{WorldState}
use Rattle.host_trait.proofs.Causes.{cause_on}
use Rattle.host_trait.proofs.Moments.{goes_on_same, leads_then, told_after}
use Rattle.switch_engine.specs.Final.{HasFailed}
use Rattle.switch_engine.specs.Moments.{IsSwitched}
use Rattle.switch_engine.specs.Quiet.{IsQuietSwitch}
use Rattle.unit_defs.specs.declared.unit.Unit.{Unit}
use Rattle.switch_parts.proofs.Faults.{handed}
use Rattle.unit_stage.proofs.CauseLemmas.{cause_end}
use Rattle.switch_engine.proofs.carrying.carry_switch.Goals as goal

-- what each moment of a switch is, each moment is while what it leaves is kept
module _ {R : WorldState → WorldState → Type 0} {a b c : HostState} (way : Passes a b R) (same : Passes b c IsSame) where
  kept : Passes a c R
  kept = goes_on_same way way.tells same R (λ w m is moment. moment) (λ w v is moment. moment)

pub returns-in_err-states-clause-moments : goal.returns-in_err-states-clause-moments
returns-in_err-states-clause-moments g c = kept c.switch_units.ensures.moments c.units.ensures.reads.moments

pub returns-clause-ok : goal.returns-clause-ok
returns-clause-ok g c =
    leads_then c.in_ok-switch_units.ensures.ok c.units.ensures.reads.moments.tells (IsSwitched c.args.system.now c.args.plan.now.owed c.args.plan.now.ordered.units)
    (λ w v u is is_v final same. subst (IsSwitched c.args.system.now c.args.plan.now.owed c.args.plan.now.ordered.units w) (sym same) final)

pub returns-clause-moments : goal.returns-clause-moments
returns-clause-moments g c = kept c.switch_units.ensures.moments c.units.ensures.reads.moments

pub returns-clause-states : goal.returns-clause-states
returns-clause-states g c =
    told_after c.units.ensures.reads.moments c.units.ensures.reads.moments.tells (λ v. c.in_ok-states.states ≡ v.manager.states)
    (λ w v is same. c.in_ok-states.ensures.states.has w is ∙ ap (λ (x : WorldState). x.manager.states) (sym same))

pub returns-clause-failed : goal.returns-clause-failed
returns-clause-failed g c =
    subst (λ (units : List Unit). IsTrue c.has_failed-failed.result ↔ HasFailed units c.in_ok-states.states) c.defs.ensures c.has_failed-failed.ensures

pub returns-in_err-states-clause-cause : goal.returns-in_err-states-clause-cause
returns-in_err-states-clause-cause g c =
    let p = err_from_is_err_and c.from_residual-in_err-states.result c.from_residual-in_err-states.ensures.1 in
    cause_on c.switch_units.ensures.cause c.in_err-states.ensures.reads.cause (λ e. handed _ p.0 _ _ p.1 p.2 e)

pub returns-clause-cause : goal.returns-clause-cause
returns-clause-cause g c = cause_end c.switch_units.ensures.cause c.units.ensures.reads.cause

pub returns-clause-quiet : goal.returns-clause-quiet
returns-clause-quiet g c =
    leads_then c.in_ok-switch_units.ensures.quiet c.units.ensures.reads.moments.tells (IsQuietSwitch c.args.system.now)
    (λ w v u is is_v quiet same. subst (λ (x : WorldState). IsQuietSwitch c.args.system.now w x) (sym same) quiet)
