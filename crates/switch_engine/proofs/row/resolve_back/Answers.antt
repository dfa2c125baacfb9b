use Rattle.std.proofs.Common.{Err, Some, is_none, sym, ap, ◌∙◌}
use Rattle.std.proofs.lemmas.Option.{none-some}
use Rattle.std.proofs.lemmas.Result.{err_from_is_err_and}
use Rattle.std.specs.Option.{option_copied}
use Rattle.switch_names.proofs.Outcomes.{none_left}
use Rattle.host_trait.specs.declared.tree.HostFault.TheVariants.{Device}
use Rattle.host_trait.proofs.Moments.{told_as}
use Rattle.host_trait.proofs.Readings.{read_of, reads_of, reads_then, told_read}
use Rattle.switch_engine.specs.declared.command.Command.TheVariants.{Rollback}
use Rattle.switch_engine.specs.Resolved.{IsResolved, Lacks}
use Rattle.tree_put.proofs.FoundLemmas.{told_still}
use Rattle.switch_engine.proofs.ResolveLemmas.{found_back, found_row}
use Rattle.switch_parts.specs.declared.plan_fault.PlanFault.TheVariants.{Host, Refused}
use Rattle.switch_parts.specs.declared.refusal.Refusal.TheVariants.{NoPrevious}
use Rattle.switch_parts.proofs.Faults.{handed, memory_no_device, no_err, refused_no_device}
use Rattle.unit_stage.proofs.KnownLemmas.{same_fault}
use Rattle.switch_engine.proofs.row.resolve_back.Goals as goal

pub find_goal-requires : goal.find_goal-requires
find_goal-requires g c = told_still c.all.ensures.reads.moments c.in_ok-gens.ensures.gens

pub returns-in_err-found-clause-refused : goal.returns-in_err-found-clause-refused
returns-in_err-found-clause-refused g c why e =
    let p = err_from_is_err_and c.from_residual-in_err-found.result c.from_residual-in_err-found.ensures.1 in
    told_read c.all.ensures.reads (c.in_err-found.ensures.refused why (ap (λ f. Err f) (sym p.2 ∙ same_fault p.0 (Refused why) (sym p.1 ∙ e))))

pub returns-in_err-found-clause-reads : goal.returns-in_err-found-clause-reads
returns-in_err-found-clause-reads g c =
    let p = err_from_is_err_and c.from_residual-in_err-found.result c.from_residual-in_err-found.ensures.1 in
    reads_of (reads_then (read_of c.all.ensures.reads _ (λ e. e)) c.in_err-found.ensures.reads) _ (λ e. handed _ p.0 _ _ p.1 p.2 e)

pub returns-in_default-clause-refused : goal.returns-in_default-clause-refused
returns-in_default-clause-refused g c why e =
    told_as (told_read c.all.ensures.reads c.in_ok-found.ensures.goal) (λ w. Lacks Rollback w.leaves why)
    (λ w is named. absurd (none-some _ (ap option_copied (none_left c.system_of.result c.in_default.not-Some)
    ∙ found_back w.leaves c.in_ok-gens.gens c.in_ok-found.found.number (c.in_ok-gens.ensures.gens.has w is) named (option_copied c.system_of.result) c.system_of.ensures)))

pub returns-in_default-clause-reads : goal.returns-in_default-clause-reads
returns-in_default-clause-reads g c = reads_of (reads_then (read_of c.all.ensures.reads _ (λ e. e)) c.find_goal.ensures.reads) _ (λ e. absurd (refused_no_device NoPrevious e))

pub returns-in_err-row-clause-reads : goal.returns-in_err-row-clause-reads
returns-in_err-row-clause-reads g c =
    let p = err_from_is_err_and c.from_residual-in_err-row.result c.from_residual-in_err-row.ensures.1 in
    reads_of (reads_then (read_of c.all.ensures.reads _ (λ e. e)) c.find_goal.ensures.reads) _ (λ e. absurd (memory_no_device c.from_residual-in_err-row.result p.0 p.1 p.2 e))

pub returns-clause-resolved : goal.returns-clause-resolved
returns-clause-resolved g c =
    told_as (told_read c.all.ensures.reads c.in_ok-found.ensures.goal) (λ w. IsResolved Rollback w.leaves (record { row = c.in_ok-row.row; gens = Some c.in_ok-gens.gens; past = c.in_ok-found.found.past }))
    (λ w is named. record {
      row = c.in_ok-row.ensures
          ∙ found_row w.leaves c.in_ok-gens.gens c.in_ok-found.found.number (c.in_ok-gens.ensures.gens.has w is) named c.in-Some.system.now
          (sym (ap option_copied c.in-Some.is) ∙ found_back w.leaves c.in_ok-gens.gens c.in_ok-found.found.number (c.in_ok-gens.ensures.gens.has w is) named (option_copied c.system_of.result) c.system_of.ensures);
      has_one = ap is_none named;
      gens = c.in_ok-gens.ensures.gens.has w is;
      past = λ back. (told_read c.all.ensures.reads c.in_ok-found.ensures.past).has w is;
    })

pub returns-clause-reads : goal.returns-clause-reads
returns-clause-reads g c =
    reads_of (reads_then (read_of c.all.ensures.reads _ (λ e. e)) c.find_goal.ensures.reads) _ (λ e. absurd (no_err _ (Host Device) e))
