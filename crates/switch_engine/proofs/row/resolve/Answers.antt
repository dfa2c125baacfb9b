use Rattle.std.proofs.Common.{◌≡◌, Option, None, Some, subst}
use Rattle.std.proofs.lemmas.Result.{err_from_is_err_and}
use Rattle.host_trait.specs.declared.tree.HostFault.TheVariants.{Device}
use Rattle.host_trait.proofs.Moments.{told_as}
use Rattle.host_trait.proofs.Readings.{nothing_read_of}
use Rattle.switch_engine.specs.declared.row.Row.{Row}
use Rattle.switch_engine.specs.Resolved.{IsRowOf}
use Rattle.switch_engine.specs.Rows.{refusal}
use Rattle.switch_engine.proofs.PlanLemmas.{lacks_refused}
use Rattle.switch_parts.specs.declared.plan_fault.PlanFault.TheVariants.{Host}
use Rattle.switch_parts.proofs.Faults.{memory_no_device, no_err}
use Rattle.switch_engine.proofs.row.resolve.Goals as goal

pub returns-in_err-row-clause-reads : goal.returns-in_err-row-clause-reads
returns-in_err-row-clause-reads g c =
    let p = err_from_is_err_and c.from_residual.result c.from_residual.ensures.1 in nothing_read_of _ (λ e. memory_no_device c.from_residual.result p.0 p.1 p.2 e)

pub returns-in-Some-clause-reads : goal.returns-in-Some-clause-reads
returns-in-Some-clause-reads g c = nothing_read_of _ (λ e. absurd (no_err _ (Host Device) e))

pub resolve_by_generations-requires : goal.resolve_by_generations-requires
resolve_by_generations-requires g c = subst (λ (o : Option Row). IsRowOf c.args.command.now o) c.in-None.is c.in_ok-row.ensures.row

pub returns-in-None-clause-refused : goal.returns-in-None-clause-refused
returns-in-None-clause-refused g c why e =
    told_as (c.resolve_by_generations.ensures.refused why e) (λ w. refusal c.args.command.now w.leaves ≡ Some why) (λ w is lacks. lacks_refused None c.args.command.now w.leaves why lacks)
