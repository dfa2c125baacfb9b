-- One run of a command: its plan, and what is carried out.
use Rattle.std.proofs.Common.{◌≡◌, ◌↔◌, Bool, true, false, IsTrue, None, Some, sym, subst, ◌∙◌}
use Rattle.host_trait.specs.Change.{IsSame}
use Rattle.host_trait.specs.Host.{HostState, Leads, Passes, Told}
use Rattle.host_trait.specs.World.{WorldState}
use Rattle.host_trait.proofs.Moments.{same_as, same_then}
use Rattle.rehearse.specs.declared.summary.End.{End}
use Rattle.rehearse.specs.declared.summary.End.TheVariants.{Done, UnitsFailed, Refused}
use Rattle.rehearse.specs.Ends.{HasEnded, IsComplete, IsHeld, IsRepeatable, IsVerdict}
use Rattle.switch_engine.specs.declared.command.Command.{Command}
use Rattle.switch_engine.specs.declared.plan.Plan.{Plan}
use Rattle.switch_engine.specs.Final.{IsEndOf, LeavesFailed}
use Rattle.switch_engine.specs.Moments.{IsMomentOf}
use Rattle.switch_engine.specs.Owing.{Refuses}
use Rattle.switch_engine.specs.Plan.{IsPlanOf}
use Rattle.switch_names.specs.SystemName.{IsSystemPath}
use Rattle.switch_parts.specs.declared.refusal.Refusal.{Refusal}
use Rattle.rehearse.proofs.HeldLemmas.{held_begins, held_moment}

differ : false ≡ true → ⊥
differ is = cc

-- where nothing has changed
pub held_same : {a b : HostState} (command : Command) → Passes a b IsSame → Passes a b (IsHeld command)
held_same command way = same_as way (IsHeld command) (λ w is. held_begins command w)

pub refused_end : {a b : HostState} (command : Command) (why : Refusal) → Passes a b IsSame → Told a (λ w. Refuses command w (Some why)) → Leads a b (HasEnded command (Refused why))
refused_end command why way told = record { to = λ w is. let there = way.tells.to w is in (there.0, there.1, (told.has w is, there.2)) }

module _ {a b c : HostState} (command : Command) (repeatable : IsRepeatable command) (plan : Plan) (same : plan.command ≡ command) (reads : Passes a b IsSame) (planned : Told a (λ w. IsPlanOf w plan)) where
  -- each moment of what is carried out
  pub held_carried : Passes b c (IsMomentOf plan.command) → Passes a c (IsHeld command)
  held_carried way =
      same_then reads way (IsHeld command) (λ w is. held_begins command w)
      (λ w m is moment.
      held_moment command repeatable w m
      (subst (λ (x : Command). Refuses x w None) same (planned.has w is).not_refused)
      (subst (λ (x : Command). IsMomentOf x w m) same moment))

  complete : (how : End) → Leads b c (IsEndOf plan.command) → Told b (λ w. IsVerdict plan.command how w) → Leads a c (IsComplete command how)
  complete how led verdict = record {
    to = λ w is.
        let there = reads.tells.to w is in
        let end = led.to there.0 there.1 in
        let plan_of = planned.has w is in (
          end.0,
          end.1,
          subst (λ (x : Command). IsComplete x how w end.0) same (record {
            named = subst (λ its. IsSystemPath its.system) plan_of.resolved plan_of.named;
            not_refused = plan_of.not_refused;
            end = subst (λ (x : WorldState). IsEndOf plan.command x end.0) there.2 end.2;
            verdict = subst (λ (x : WorldState). IsVerdict plan.command how x) there.2 (verdict.has there.0 there.1);
          }),
        );
  }

  pub failed_end : (failed : Bool) → failed ≡ true → Leads b c (IsEndOf plan.command) → Told b (λ w. IsTrue failed ↔ LeavesFailed plan.command w) → Leads a c (HasEnded command UnitsFailed)
  failed_end failed is led told = complete UnitsFailed led (record { has = λ w at. (told.has w at).0 is })

  pub done_end : (failed : Bool) → failed ≡ false → Leads b c (IsEndOf plan.command) → Told b (λ w. IsTrue failed ↔ LeavesFailed plan.command w) → Leads a c (HasEnded command Done)
  done_end failed is led told = complete Done led (record { has = λ w at left. differ (sym is ∙ (told.has w at).1 left) })
