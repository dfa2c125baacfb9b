use Rattle.std.proofs.Common.{Err, ap, subst, sym}
use Rattle.host_trait.specs.World.{WorldState}
use Rattle.host_trait.proofs.Moments.{told_after}
use Rattle.switch_engine.specs.Plan.{IsPlanOf}
use Rattle.host_trait.specs.Host.{Leads}
use Rattle.switch_parts.specs.declared.refusal.Refusal.{Refusal}
use Rattle.rehearse.specs.declared.summary.End.TheVariants.{Refused}
use Rattle.rehearse.specs.Ends.{HasEnded}
use Rattle.rehearse.proofs.AttemptLemmas.{done_end, failed_end, held_carried, held_same, refused_end}
use Rattle.rehearse.proofs.attempt.attempt.Goals as goal

pub returns-in-Err-Refused-clause-ended : goal.returns-in-Err-Refused-clause-ended
returns-in-Err-Refused-clause-ended g c =
    subst (λ (why : Refusal). Leads (g.H.Tree.host c.args.host.now) (g.H.Tree.host c.plan_all.new.host) (HasEnded c.args.command.now (Refused why))) (sym c.in-Err-Refused.why-is)
    (refused_end c.args.command.now c.in-Err-Refused.why c.plan_all.ensures.reads.moments (c.in-Err-Refused.ensures.refused c.in-Err-Refused.why (ap (λ f. Err f) c.in-Err-Refused.field-0-is)))

pub returns-in-Err-Refused-clause-moments : goal.returns-in-Err-Refused-clause-moments
returns-in-Err-Refused-clause-moments g c = held_same c.args.command.now c.plan_all.ensures.reads.moments

pub returns-in-Err-Host-clause-moments : goal.returns-in-Err-Host-clause-moments
returns-in-Err-Host-clause-moments g c = held_same c.args.command.now c.plan_all.ensures.reads.moments

pub carry_out-requires-clause-planned : goal.carry_out-requires-clause-planned
carry_out-requires-clause-planned g c =
    told_after c.plan_all.ensures.reads.moments c.plan_all.ensures.reads.moments.tells (λ w. IsPlanOf w c.in-Ok.plan)
    (λ w v is same. subst (λ (x : WorldState). IsPlanOf x c.in-Ok.plan) (sym same) (c.in-Ok.ensures.plan.has w is))

pub returns-in_err-outcome-clause-moments : goal.returns-in_err-outcome-clause-moments
returns-in_err-outcome-clause-moments g c =
    held_carried c.args.command.now c.requires.repeatable c.in-Ok.plan c.in-Ok.ensures.command c.plan_all.ensures.reads.moments c.in-Ok.ensures.plan c.carry_out.ensures.moments

pub returns-then-outcome-clause-ended : goal.returns-then-outcome-clause-ended
returns-then-outcome-clause-ended g c =
    failed_end c.args.command.now c.requires.repeatable c.in-Ok.plan c.in-Ok.ensures.command c.plan_all.ensures.reads.moments c.in-Ok.ensures.plan c.in_ok-outcome.outcome.failed c.if-outcome.true c.in_ok-outcome.ensures.ok c.in_ok-outcome.ensures.verdict

pub returns-then-outcome-clause-moments : goal.returns-then-outcome-clause-moments
returns-then-outcome-clause-moments g c =
    held_carried c.args.command.now c.requires.repeatable c.in-Ok.plan c.in-Ok.ensures.command c.plan_all.ensures.reads.moments c.in-Ok.ensures.plan c.carry_out.ensures.moments

pub returns-clause-ended : goal.returns-clause-ended
returns-clause-ended g c =
    done_end c.args.command.now c.requires.repeatable c.in-Ok.plan c.in-Ok.ensures.command c.plan_all.ensures.reads.moments c.in-Ok.ensures.plan c.in_ok-outcome.outcome.failed c.if-outcome.false c.in_ok-outcome.ensures.ok c.in_ok-outcome.ensures.verdict

pub returns-clause-moments : goal.returns-clause-moments
returns-clause-moments g c =
    held_carried c.args.command.now c.requires.repeatable c.in-Ok.plan c.in-Ok.ensures.command c.plan_all.ensures.reads.moments c.in-Ok.ensures.plan c.carry_out.ensures.moments
