use Rattle.std.proofs.Common.{◌↔◌, Err, IsTrue, sym, ap, ◌∙◌}
use Rattle.std.proofs.lemmas.Result.{err_from_is_err_and}
use Rattle.host_trait.specs.declared.tree.HostFault.TheVariants.{Device, Memory}
use Rattle.host_trait.proofs.Moments.{told_as}
use Rattle.host_trait.proofs.Readings.{reads_of}
use Rattle.switch_parts.specs.declared.plan_fault.PlanFault.TheVariants.{Host, Refused}
use Rattle.unit_stage.specs.Owes.{IsSteadyWorld}
use Rattle.unit_stage.specs.Plan.{IsUnitPlanOf}
use Rattle.switch_parts.proofs.Faults.{host_no_refusal, no_err, memory_no_device}
use Rattle.unit_stage.proofs.KnownLemmas.{plan_is, same_fault, steady_is}
use Rattle.unit_stage.proofs.planning.plan_units.Goals as goal

pub returns-clause-plan : goal.returns-clause-plan
returns-clause-plan g c =
    told_as c.in_ok-known.ensures.known (λ w. IsUnitPlanOf c.args.start_up c.args.system.now w c.in_ok-plan.plan)
    (λ w is known. plan_is c.args.start_up c.args.system.now w c.in_ok-known.known c.in_ok-plan.plan known c.in_ok-plan.ensures.plan)

pub returns-clause-steady : goal.returns-clause-steady
returns-clause-steady g c =
    told_as c.in_ok-known.ensures.known (λ w. IsTrue c.in_ok-plan.plan.steady ↔ IsSteadyWorld c.args.start_up c.args.system.now w)
    (λ w is known. steady_is c.args.start_up c.args.system.now w c.in_ok-known.known known c.in_ok-plan.plan c.in_ok-plan.ensures.plan)

pub returns-in_err-plan-clause-refused : goal.returns-in_err-plan-clause-refused
returns-in_err-plan-clause-refused g c why e =
    let p = err_from_is_err_and c.from_residual-in_err-plan.result c.from_residual-in_err-plan.ensures.1 in
    absurd (host_no_refusal c.from_residual-in_err-plan.result p.0 Memory why p.1 p.2 e)

pub returns-in_err-plan-clause-reads : goal.returns-in_err-plan-clause-reads
returns-in_err-plan-clause-reads g c =
    let p = err_from_is_err_and c.from_residual-in_err-plan.result c.from_residual-in_err-plan.ensures.1 in
    reads_of c.read_known.ensures.reads _ (λ e. absurd (memory_no_device c.from_residual-in_err-plan.result p.0 p.1 p.2 e))

pub returns-clause-refused : goal.returns-clause-refused
returns-clause-refused g c why e = absurd (no_err c.in_ok-plan.plan (Refused why) e)

pub returns-clause-reads : goal.returns-clause-reads
returns-clause-reads g c = reads_of c.read_known.ensures.reads _ (λ e. absurd (no_err c.in_ok-plan.plan (Host Device) e))

pub returns-in_err-known-clause-refused : goal.returns-in_err-known-clause-refused
returns-in_err-known-clause-refused g c why e =
    let p = err_from_is_err_and c.from_residual.result c.from_residual.ensures.1 in
    c.in_err-known.ensures.refused why (ap (λ f. Err f) (sym p.2 ∙ same_fault p.0 (Refused why) (sym p.1 ∙ e)))

pub returns-clause-others : goal.returns-clause-others
returns-clause-others g c = c.in_ok-known.ensures.others
