use Rattle.std.proofs.Common.{◌≡◌, ◌↔◌, IsTrue, Err, None, Some, sym, ap, subst, ◌∙◌}
use Rattle.std.proofs.lemmas.Result.{err_from_is_err_and}
use Rattle.generations.specs.Gens.{IsGensOf}
use Rattle.host_trait.specs.declared.tree.HostFault.TheVariants.{Device}
use Rattle.host_trait.proofs.Moments.{told_as, told_before}
use Rattle.host_trait.proofs.Readings.{reads_of, reads_then}
use Rattle.std.specs.Option.{IfSome}
use Rattle.switch_engine.specs.declared.command.Command.{Command}
use Rattle.switch_engine.specs.declared.row.Row.{Row}
use Rattle.switch_engine.specs.Commands.{row, switched_by}
use Rattle.switch_engine.specs.Owing.{IsSteadyFor, IsSteadyTo, Refuses}
use Rattle.switch_engine.specs.Plan.{ArePlanned, IsPlanOf, units_of}
use Rattle.switch_engine.specs.Resolved.{IsGoalPast}
use Rattle.switch_engine.proofs.PlanLemmas.{lacks_refuses, row_refuses, version_refuses}
use Rattle.switch_names.specs.SystemName.{IsSystemPath}
use Rattle.switch_parts.specs.declared.plan_fault.PlanFault.TheVariants.{Host, Refused}
use Rattle.switch_parts.proofs.Faults.{handed, no_err}
use Rattle.unit_stage.proofs.KnownLemmas.{same_fault}
use Rattle.tree_put.proofs.FoundLemmas.{told_still}
use Rattle.switch_engine.proofs.planning.plan_all.Goals as goal

pub plan_row-requires-clause-known : goal.plan_row-requires-clause-known
plan_row-requires-clause-known g c =
    told_as (told_still c.check_version.ensures.reads.moments (told_still c.resolve.ensures.reads.moments c.in_ok-resolved.ensures.resolved)) (λ w. IfSome c.in_ok-resolved.resolved.gens (IsGensOf w.leaves))
    (λ w is resolved. resolved.gens)

pub plan_row-requires-clause-past : goal.plan_row-requires-clause-past
plan_row-requires-clause-past g c =
    told_as (told_still c.check_version.ensures.reads.moments (told_still c.resolve.ensures.reads.moments c.in_ok-resolved.ensures.resolved))
    (λ w. IsGoalPast c.in_ok-resolved.resolved.row.moves w.leaves c.in_ok-resolved.resolved.past) (λ w is resolved. resolved.past)

pub plan_row-requires-clause-short : goal.plan_row-requires-clause-short
plan_row-requires-clause-short g c = told_still c.check_version.ensures.reads.moments c.in_ok-check_version.ensures.short

pub returns-in_err-check_version-clause-reads : goal.returns-in_err-check_version-clause-reads
returns-in_err-check_version-clause-reads g c =
    let p = err_from_is_err_and c.from_residual-in_err-check_version.result c.from_residual-in_err-check_version.ensures.1 in
    reads_of (reads_then c.resolve.ensures.reads c.in_err-check_version.ensures.reads) _ (λ e. handed _ p.0 _ _ p.1 p.2 e)

pub returns-in_err-check_version-clause-refused : goal.returns-in_err-check_version-clause-refused
returns-in_err-check_version-clause-refused g c why e =
    let p = err_from_is_err_and c.from_residual-in_err-check_version.result c.from_residual-in_err-check_version.ensures.1 in
    let refused = c.in_err-check_version.ensures.refused why (ap (λ f. Err f) (sym p.2 ∙ same_fault p.0 (Refused why) (sym p.1 ∙ e))) in
    told_as (told_before c.resolve.ensures.reads.moments refused) (λ w. Refuses c.args.command.now w (Some why))
    (λ w is version.
    let its = c.in_ok-resolved.ensures.resolved.has w is in
    version_refuses c.args.command.now w c.in_ok-resolved.resolved.row its.has_one its.row why version)

pub returns-in_err-plan-clause-reads : goal.returns-in_err-plan-clause-reads
returns-in_err-plan-clause-reads g c =
    let p = err_from_is_err_and c.from_residual-in_err-plan.result c.from_residual-in_err-plan.ensures.1 in
    reads_of (reads_then (reads_then c.resolve.ensures.reads c.check_version.ensures.reads) c.in_err-plan.ensures.reads) _ (λ e. handed _ p.0 _ _ p.1 p.2 e)

pub returns-clause-reads : goal.returns-clause-reads
returns-clause-reads g c =
    reads_of (reads_then (reads_then c.resolve.ensures.reads c.check_version.ensures.reads) c.plan_row.ensures.reads) _ (λ e. absurd (no_err c.in_ok-plan.plan (Host Device) e))

pub returns-in_err-plan-clause-refused : goal.returns-in_err-plan-clause-refused
returns-in_err-plan-clause-refused g c why e =
    let p = err_from_is_err_and c.from_residual-in_err-plan.result c.from_residual-in_err-plan.ensures.1 in
    let refused = c.in_err-plan.ensures.refused why (ap (λ f. Err f) (sym p.2 ∙ same_fault p.0 (Refused why) (sym p.1 ∙ e))) in
    told_as (told_before c.resolve.ensures.reads.moments (told_before c.check_version.ensures.reads.moments refused)) (λ w. Refuses c.args.command.now w (Some why))
    (λ w is parts.
    let its = c.in_ok-resolved.ensures.resolved.has w is in
    row_refuses c.args.command.now w c.in_ok-resolved.resolved.row its.has_one its.row (Some why) ((told_before c.resolve.ensures.reads.moments c.in_ok-check_version.ensures.there).has w is) parts)

pub returns-clause-plan : goal.returns-clause-plan
returns-clause-plan g c =
    let plan = c.in_ok-plan.plan in
    let same_row = c.in_ok-plan.ensures.row in
    told_as (told_before c.resolve.ensures.reads.moments (told_before c.check_version.ensures.reads.moments c.in_ok-plan.ensures.plan)) (λ w. IsPlanOf w plan)
    (λ w is planned.
    let its = c.in_ok-resolved.ensures.resolved.has w is in
    record {
      resolved = same_row ∙ subst (λ (command : Command). c.in_ok-resolved.resolved.row ≡ row command w.leaves) (sym c.in_ok-plan.ensures.command) its.row;
      planned = subst (λ (r : Row). ArePlanned r w plan) (sym same_row) planned;
      named = subst (λ (r : Row). IsSystemPath r.system) (sym same_row) c.path-path.ensures.names;
      not_refused = subst (λ (command : Command). Refuses command w None) (sym c.in_ok-plan.ensures.command)
          (row_refuses c.args.command.now w c.in_ok-resolved.resolved.row its.has_one its.row None
          ((told_before c.resolve.ensures.reads.moments c.in_ok-check_version.ensures.there).has w is)
          ((told_before c.resolve.ensures.reads.moments (told_before c.check_version.ensures.reads.moments c.in_ok-plan.ensures.not_refused)).has w is));
    })

pub returns-clause-steady : goal.returns-clause-steady
returns-clause-steady g c =
    let plan = c.in_ok-plan.plan in
    told_as (told_before c.resolve.ensures.reads.moments (told_before c.check_version.ensures.reads.moments c.in_ok-plan.ensures.steady)) (λ w. IsTrue (units_of plan).steady ↔ IsSteadyFor c.args.command.now w)
    (λ w is told. subst (λ (r : Row). IsTrue (units_of plan).steady ↔ IsSteadyTo r.start_up (switched_by r) w) (c.in_ok-resolved.ensures.resolved.has w is).row told)

pub returns-in_err-resolved-clause-refused : goal.returns-in_err-resolved-clause-refused
returns-in_err-resolved-clause-refused g c why e =
    let p = err_from_is_err_and c.from_residual.result c.from_residual.ensures.1 in
    told_as (c.in_err-resolved.ensures.lacks why (ap (λ f. Err f) (sym p.2 ∙ same_fault p.0 (Refused why) (sym p.1 ∙ e)))) (λ w. Refuses c.args.command.now w (Some why))
    (λ w is lacks. lacks_refuses c.args.command.now w why lacks)
