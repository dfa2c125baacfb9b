use Rattle.std.proofs.Common.{Some, subst, sym}
use Rattle.std.proofs.lemmas.Result.{err_from_is_err_and}
use Rattle.host_trait.specs.World.{WorldState}
use Rattle.host_trait.proofs.Moments.{told_after}
use Rattle.switch_engine.specs.declared.command.Command.{Command}
use Rattle.switch_engine.specs.Plan.{IsPlanOf}
use Rattle.switch_run.specs.Ending.{IsEnding}
use Rattle.switch_run.proofs.EndingLemmas.{handed, ending_after, unplanned}
use Rattle.switch_run.proofs.running.run_command.Goals as goal

pub returns-in_err-plan : goal.returns-in_err-plan
returns-in_err-plan g c =
    let p = err_from_is_err_and c.from_residual.result c.from_residual.ensures.1 in
    handed p.0 _ p.1 p.2
    (unplanned c.args.command.now c.in_err-plan.field-0.0 c.in_err-plan.ensures.refused c.in_err-plan.ensures.reads)

pub run_planned-requires-clause-planned : goal.run_planned-requires-clause-planned
run_planned-requires-clause-planned g c =
    told_after c.plan_all.ensures.reads.moments c.plan_all.ensures.reads.moments.tells (λ w. IsPlanOf w c.in_ok-plan.plan)
    (λ w v is same. subst (λ (x : WorldState). IsPlanOf x c.in_ok-plan.plan) (sym same) (c.in_ok-plan.ensures.plan.has w is))

pub returns : goal.returns
returns g c =
    ending_after c.args.command.now c.plan_all.ensures.reads c.run_planned.result
    (subst (λ (command : Command). IsEnding (Some command) (g.H.Tree.host c.plan_all.new.host) (g.H.Tree.host c.run_planned.new.host) (g.S.Sink.sink c.args.out.now) (g.S.Sink.sink c.run_planned.new.out) c.run_planned.result)
    c.in_ok-plan.ensures.command c.run_planned.ensures)
