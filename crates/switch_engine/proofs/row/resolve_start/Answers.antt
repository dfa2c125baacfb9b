use Rattle.std.proofs.Common.{None, Some, is_none, sym, ap, ◌∙◌}
use Rattle.std.proofs.lemmas.Result.{err_from_is_err_and}
use Rattle.std.proofs.lemmas.Bool.{both_ways}
use Rattle.std.specs.Option.{option_copied}
use Rattle.switch_names.proofs.Outcomes.{none_left}
use Rattle.host_trait.specs.declared.tree.HostFault.TheVariants.{Device}
use Rattle.host_trait.proofs.Moments.{told_as}
use Rattle.host_trait.proofs.Readings.{read_of, reads_of}
use Rattle.switch_engine.specs.declared.command.Command.TheVariants.{StartUp}
use Rattle.switch_engine.specs.declared.row.Row.{Row}
use Rattle.switch_engine.specs.Commands.{is_back}
use Rattle.switch_engine.specs.Resolved.{IsResolved, Lacks}
use Rattle.switch_engine.proofs.ResolveLemmas.{start_row}
use Rattle.switch_parts.specs.declared.plan_fault.PlanFault.TheVariants.{Host}
use Rattle.switch_parts.specs.declared.refusal.Refusal.TheVariants.{NoProfile}
use Rattle.switch_parts.proofs.Faults.{memory_no_device, no_err, refused_is, refused_no_device}
use Rattle.switch_engine.proofs.row.resolve_start.Goals as goal

pub returns-in_default-clause-refused : goal.returns-in_default-clause-refused
returns-in_default-clause-refused g c why e =
    told_as c.in_ok-gens.ensures.gens (λ w. Lacks StartUp w.leaves why)
    (λ w is are. (
      ap is_none (sym (c.boot_system.ensures w.leaves are) ∙ sym (ap option_copied (none_left c.boot_system.result c.in_default.not-Some))),
      sym (refused_is NoProfile why e),
    ))

pub returns-in_default-clause-reads : goal.returns-in_default-clause-reads
returns-in_default-clause-reads g c = reads_of (read_of c.all.ensures.reads _ (λ e. e)) _ (λ e. absurd (refused_no_device NoProfile e))

pub returns-in_err-row-clause-reads : goal.returns-in_err-row-clause-reads
returns-in_err-row-clause-reads g c =
    let p = err_from_is_err_and c.from_residual-in_err-row.result c.from_residual-in_err-row.ensures.1 in
    reads_of (read_of c.all.ensures.reads _ (λ e. e)) _ (λ e. absurd (memory_no_device c.from_residual-in_err-row.result p.0 p.1 p.2 e))

pub returns-clause-resolved : goal.returns-clause-resolved
returns-clause-resolved g c =
    told_as c.in_ok-gens.ensures.gens (λ w. IsResolved StartUp w.leaves (record { row = c.in_ok-row.row; gens = Some c.in_ok-gens.gens; past = None }))
    (λ w is are.
    let booted = sym (ap option_copied c.in-Some.is) ∙ c.boot_system.ensures w.leaves are in
    record {
      row = c.in_ok-row.ensures ∙ start_row w.leaves c.in-Some.system.now booted;
      has_one = ap is_none (sym booted);
      gens = are;
      past = λ back. absurd (both_ways _ (ap (λ (r : Row). is_back r.moves) c.in_ok-row.ensures) back);
    })

pub returns-clause-reads : goal.returns-clause-reads
returns-clause-reads g c = reads_of (read_of c.all.ensures.reads _ (λ e. e)) _ (λ e. absurd (no_err _ (Host Device) e))
