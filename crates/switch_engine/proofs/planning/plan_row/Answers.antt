use Rattle.std.proofs.Common.{Err, sym, ap, ◌∙◌}
use Rattle.std.proofs.lemmas.Result.{err_from_is_err_and}
use Rattle.host_trait.specs.declared.tree.HostFault.TheVariants.{Device}
use Rattle.host_trait.proofs.Moments.{told_before}
use Rattle.host_trait.proofs.Readings.{reads_of, reads_then}
use Rattle.switch_engine.specs.Commands.{switched_by}
use Rattle.switch_engine.proofs.RefusesLemmas.{some_log_to}
use Rattle.switch_parts.specs.declared.plan_fault.PlanFault.TheVariants.{Host, Refused}
use Rattle.switch_parts.proofs.Faults.{handed, no_err, same_err}
use Rattle.unit_stage.proofs.KnownLemmas.{same_fault}
use Rattle.tree_put.proofs.FoundLemmas.{told_still}
use Rattle.switch_engine.proofs.planning.plan_row.Goals as goal

pub check_lengths-requires-clause-planned : goal.check_lengths-requires-clause-planned
check_lengths-requires-clause-planned g c = told_still c.plan_parts.ensures.reads.moments c.in-Ok.ensures.plan

pub check_lengths-requires-clause-free : goal.check_lengths-requires-clause-free
check_lengths-requires-clause-free g c = told_still c.plan_parts.ensures.reads.moments c.in-Ok.ensures.not_refused

pub check_lengths-requires-clause-short : goal.check_lengths-requires-clause-short
check_lengths-requires-clause-short g c = told_still c.plan_parts.ensures.reads.moments c.requires.short

pub check_lengths-requires-clause-owed : goal.check_lengths-requires-clause-owed
check_lengths-requires-clause-owed g c = told_still c.plan_parts.ensures.reads.moments c.in-Ok.ensures.short

pub returns-in_err-check_lengths-in-Ok-clause-refused : goal.returns-in_err-check_lengths-in-Ok-clause-refused
returns-in_err-check_lengths-in-Ok-clause-refused g c why e =
    let p = err_from_is_err_and c.from_residual.result c.from_residual.ensures.1 in
    told_before c.plan_parts.ensures.reads.moments (c.in_err-check_lengths-in-Ok.ensures.refused why (ap (λ f. Err f) (sym p.2 ∙ same_fault p.0 (Refused why) (sym p.1 ∙ e))))

pub returns-in_err-check_lengths-in-Ok-clause-reads : goal.returns-in_err-check_lengths-in-Ok-clause-reads
returns-in_err-check_lengths-in-Ok-clause-reads g c =
    let p = err_from_is_err_and c.from_residual.result c.from_residual.ensures.1 in
    reads_of (reads_then c.plan_parts.ensures.reads c.in_err-check_lengths-in-Ok.ensures.reads) _ (λ e. handed _ p.0 _ _ p.1 p.2 e)

pub returns-in_ok-check_lengths-in-Ok-clause-not_refused : goal.returns-in_ok-check_lengths-in-Ok-clause-not_refused
returns-in_ok-check_lengths-in-Ok-clause-not_refused g c = told_before c.plan_parts.ensures.reads.moments c.in_ok-check_lengths-in-Ok.ensures.not_refused

pub returns-in_ok-check_lengths-in-Ok-clause-reads : goal.returns-in_ok-check_lengths-in-Ok-clause-reads
returns-in_ok-check_lengths-in-Ok-clause-reads g c = reads_of (reads_then c.plan_parts.ensures.reads c.check_lengths.ensures.reads) _ (λ e. absurd (no_err _ (Host Device) e))

pub refused_first-requires : goal.refused_first-requires
refused_first-requires g c =
    told_still c.plan_parts.ensures.reads.moments (c.in-Err-Refused.ensures.refused c.in-Err-Refused.why (ap (λ f. Err f) c.in-Err-Refused.field-0-is))

pub returns-in-Err-Refused-clause-refused : goal.returns-in-Err-Refused-clause-refused
returns-in-Err-Refused-clause-refused g c why e = record {
  has = λ w is.
      let log = some_log_to c.args.row.now.start_up (switched_by c.args.row.now) w in
      (log.0, log.1, sym ((told_before c.plan_parts.ensures.reads.moments (c.refused_first.ensures.refused why log.0 (same_err _ _ e))).has w is));
}

pub returns-in-Err-Refused-clause-reads : goal.returns-in-Err-Refused-clause-reads
returns-in-Err-Refused-clause-reads g c = reads_of (reads_then c.plan_parts.ensures.reads c.refused_first.ensures.reads) _ (λ e. same_err _ _ e)
