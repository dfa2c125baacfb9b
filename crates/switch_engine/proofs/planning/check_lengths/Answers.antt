use Rattle.std.proofs.Common.{Err, None, Some, sym, ap, subst, ◌∙◌}
use Rattle.std.proofs.lemmas.Result.{err_from_is_err_and, on_ok_weaker}
use Rattle.host_trait.proofs.Moments.{told_as}
use Rattle.host_trait.proofs.Readings.{reads_of}
use Rattle.switch_engine.specs.Owing.{RefusesBy}
use Rattle.switch_engine.proofs.PlanLemmas.{long_refuses, taken_refuses}
use Rattle.switch_parts.specs.declared.plan_fault.PlanFault.TheVariants.{Refused}
use Rattle.switch_parts.proofs.Faults.{memory_no_device}
use Rattle.unit_stage.proofs.KnownLemmas.{same_fault}
use Rattle.switch_engine.proofs.planning.check_lengths.Goals as goal

pub returns-in_err-check_owed-clause-refused : goal.returns-in_err-check_owed-clause-refused
returns-in_err-check_owed-clause-refused g c why e =
    let p = err_from_is_err_and c.from_residual.result c.from_residual.ensures.1 in
    told_as (c.in_err-check_owed.ensures.refused why (ap (λ f. Err f) (sym p.2 ∙ same_fault p.0 (Refused why) (sym p.1 ∙ e)))) (λ w. RefusesBy c.args.row.now w (Some why))
    (λ w is taken. taken_refuses c.args.row.now w why taken)

pub returns-in_err-long-clause-reads : goal.returns-in_err-long-clause-reads
returns-in_err-long-clause-reads g c =
    let p = err_from_is_err_and c.from_residual-in_err-long.result c.from_residual-in_err-long.ensures.1 in
    reads_of c.check_owed.ensures.reads _ (λ e. absurd (memory_no_device c.from_residual-in_err-long.result p.0 p.1 p.2 e))

pub returns-clause-not_refused : goal.returns-clause-not_refused
returns-clause-not_refused g c =
    let its = c.args.row.now in
    on_ok_weaker c.refuse.result
    (λ none.
    told_as c.requires.planned (λ w. RefusesBy its w None)
    (λ w is planned. subst (RefusesBy its w) (sym c.long_refusal.ensures ∙ none)
    (long_refuses its w c.path-path.ensures.names (c.requires.free.has w is) (c.requires.short.has w is) (c.in_ok-check_owed.ensures.short.has w is) c.in_ok-long.long (c.in_ok-long.ensures its w planned))))
    c.refuse.ensures.not_refused

pub returns-clause-refused : goal.returns-clause-refused
returns-clause-refused g c why e =
    let its = c.args.row.now in
    told_as c.requires.planned (λ w. RefusesBy its w (Some why))
    (λ w is planned. subst (RefusesBy its w) (sym c.long_refusal.ensures ∙ c.refuse.ensures.refused why e)
    (long_refuses its w c.path-path.ensures.names (c.requires.free.has w is) (c.requires.short.has w is) (c.in_ok-check_owed.ensures.short.has w is) c.in_ok-long.long (c.in_ok-long.ensures its w planned)))

pub returns-clause-reads : goal.returns-clause-reads
returns-clause-reads g c = reads_of c.check_owed.ensures.reads _ (λ e. absurd (c.refuse.ensures.no_host e))
