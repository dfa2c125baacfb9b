use Rattle.std.proofs.Common.{Err, false, sym, ap, ◌∙◌}
use Rattle.std.proofs.lemmas.Result.{err_from_is_err_and}
use Rattle.std.specs.Option.{option_or}
use Rattle.host_trait.specs.declared.tree.HostFault.TheVariants.{Device}
use Rattle.host_trait.proofs.Moments.{told_before}
use Rattle.host_trait.proofs.Readings.{read_of, reads_of, reads_then, same_twice, told_read}
use Rattle.switch_parts.specs.declared.plan_fault.PlanFault.TheVariants.{Host, Refused}
use Rattle.switch_parts.proofs.Faults.{handed, host_device, host_no_refusal, no_err}
use Rattle.switch_names.proofs.Outcomes.{option_or_nothing}
use Rattle.tree_put.proofs.FoundLemmas.{told_still}
use Rattle.unit_stage.specs.System.{defs_refusal, units_too_long}
use Rattle.unit_stage.proofs.KnownLemmas.{same_fault}
use Rattle.unit_stage.proofs.LengthLemmas.{switched_noted}
use Rattle.unit_stage.proofs.known.read_known.Goals as goal

pub read_states-requires : goal.read_states-requires
read_states-requires g c = record {
  found = told_still (same_twice (same_twice c.read_old.ensures.reads.moments c.read_new.ensures.reads.moments) c.check_lengths.ensures.reads.moments) c.requires.found;
}

pub returns-clause-others : goal.returns-clause-others
returns-clause-others g c =
    told_before (same_twice (same_twice c.read_old.ensures.reads.moments c.read_new.ensures.reads.moments) c.check_lengths.ensures.reads.moments) c.in_ok-units.ensures.others

pub returns-in_err-new-clause-refused : goal.returns-in_err-new-clause-refused
returns-in_err-new-clause-refused g c why e =
    let p = err_from_is_err_and c.from_residual-in_err-new.result c.from_residual-in_err-new.ensures.1 in
    let told = told_read c.read_old.ensures.reads (c.in_err-new.ensures.refused why (ap (λ f. Err f) (sym p.2 ∙ same_fault p.0 (Refused why) (sym p.1 ∙ e)))) in
    record {
      has = λ w is. ap (λ o. option_or o (units_too_long w.leaves c.args.system.now)) (told.has w is (c.in_ok-old.ensures.old.has w is).defs);
    }

pub returns-in_err-check_lengths-clause-refused : goal.returns-in_err-check_lengths-clause-refused
returns-in_err-check_lengths-clause-refused g c why e =
    let p = err_from_is_err_and c.from_residual-in_err-check_lengths.result c.from_residual-in_err-check_lengths.ensures.1 in
    let long = told_before (same_twice c.read_old.ensures.reads.moments c.read_new.ensures.reads.moments)
    (c.in_err-check_lengths.ensures.refused why (ap (λ f. Err f) (sym p.2 ∙ same_fault p.0 (Refused why) (sym p.1 ∙ e)))) in
    let told = told_read c.read_old.ensures.reads c.in_ok-new.ensures.not_refused in
    record {
      has = λ w is.
          ap (λ o. option_or o (units_too_long w.leaves c.args.system.now)) (told.has w is (c.in_ok-old.ensures.old.has w is).defs)
          ∙ long.has w is;
    }

pub returns-in_err-check_lengths-clause-reads : goal.returns-in_err-check_lengths-clause-reads
returns-in_err-check_lengths-clause-reads g c =
    let p = err_from_is_err_and c.from_residual-in_err-check_lengths.result c.from_residual-in_err-check_lengths.ensures.1 in
    reads_of (reads_then (reads_then (read_of c.read_old.ensures.reads _ (λ e. e)) c.read_new.ensures.reads) c.in_err-check_lengths.ensures.reads) _
    (λ e. handed _ p.0 _ _ p.1 p.2 e)

pub returns-in_err-new-clause-reads : goal.returns-in_err-new-clause-reads
returns-in_err-new-clause-reads g c =
    let p = err_from_is_err_and c.from_residual-in_err-new.result c.from_residual-in_err-new.ensures.1 in
    reads_of (reads_then (read_of c.read_old.ensures.reads _ (λ e. e)) c.in_err-new.ensures.reads) _ (λ e. handed _ p.0 _ _ p.1 p.2 e)

pub returns-in_err-units-clause-reads : goal.returns-in_err-units-clause-reads
returns-in_err-units-clause-reads g c =
    let p = err_from_is_err_and c.from_residual-in_err-units.result c.from_residual-in_err-units.ensures.1 in
    reads_of
    (reads_then (reads_then (reads_then (read_of c.read_old.ensures.reads _ (λ e. e)) c.read_new.ensures.reads) c.check_lengths.ensures.reads) (read_of c.in_err-units.ensures.reads _ (λ e. e))) _
    (λ e. host_device c.from_residual-in_err-units.result p.0 _ p.1 p.2 e)

pub returns-in_err-units-clause-refused : goal.returns-in_err-units-clause-refused
returns-in_err-units-clause-refused g c why e =
    let p = err_from_is_err_and c.from_residual-in_err-units.result c.from_residual-in_err-units.ensures.1 in
    absurd (host_no_refusal c.from_residual-in_err-units.result p.0 _ why p.1 p.2 e)

pub returns-clause-known : goal.returns-clause-known
returns-clause-known g c = record {
  has = λ w is. record {
    old = c.in_ok-old.ensures.old.has w is;
    new = (told_read c.read_old.ensures.reads c.in_ok-new.ensures.defs).has w is;
    units = (told_before (same_twice (same_twice c.read_old.ensures.reads.moments c.read_new.ensures.reads.moments) c.check_lengths.ensures.reads.moments) c.in_ok-units.ensures.states).has w is
        c.args.system.now ((told_read c.read_old.ensures.reads c.in_ok-new.ensures.defs).has w is);
  };
}

pub returns-clause-not_refused : goal.returns-clause-not_refused
returns-clause-not_refused g c =
    let told = told_read c.read_old.ensures.reads c.in_ok-new.ensures.not_refused in
    let short = told_read c.read_old.ensures.reads c.in_ok-new.ensures.short in
    let long = told_before (same_twice c.read_old.ensures.reads.moments c.read_new.ensures.reads.moments) c.in_ok-check_lengths.ensures.not_refused in
    record {
      has = λ w is.
          option_or_nothing (defs_refusal w.leaves c.args.system.now) (units_too_long w.leaves c.args.system.now) (told.has w is (c.in_ok-old.ensures.old.has w is).defs)
          (long.has w is (switched_noted w.leaves c.args.system.now false c.read_old.new.long c.read_new.new.long (c.in_ok-old.ensures.short.has w is) (short.has w is)));
    }

pub returns-clause-reads : goal.returns-clause-reads
returns-clause-reads g c =
    reads_of
    (reads_then (reads_then (reads_then (read_of c.read_old.ensures.reads _ (λ e. e)) c.read_new.ensures.reads) c.check_lengths.ensures.reads) (read_of c.read_states.ensures.reads _ (λ e. e))) _
    (λ e. absurd (no_err _ (Host Device) e))
