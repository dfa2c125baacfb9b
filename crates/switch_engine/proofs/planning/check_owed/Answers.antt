use Rattle.std.proofs.Common.{◌≡◌, true, Some, sym, ◌∙◌}
use Rattle.std.proofs.lemmas.Result.{err_from_is_err_and, on_ok_weaker}
use Rattle.host_trait.specs.declared.tree.HostFault.TheVariants.{Device}
use Rattle.host_trait.proofs.Moments.{told_as}
use Rattle.host_trait.proofs.Readings.{nothing_read_of, read_of}
use Rattle.owed_log.specs.Lengths.{AreOwedShort}
use Rattle.switch_engine.specs.Lengths.{too_long_by}
use Rattle.switch_engine.specs.Rows.{gens_to}
use Rattle.switch_engine.proofs.ShortLemmas.{owed_short}
use Rattle.switch_parts.specs.declared.plan_fault.PlanFault.TheVariants.{Host}
use Rattle.switch_parts.proofs.Faults.{host_device, no_err}
use Rattle.switch_engine.proofs.planning.check_owed.Goals as goal

pub returns-then-short-clause-short : goal.returns-then-short-clause-short
returns-then-short-clause-short g c =
    told_as c.requires (λ w. c.args.row.now.switches ≡ true → AreOwedShort w.leaves) (λ w is told on. told c.if-short.true on)

pub returns-then-short-clause-reads : goal.returns-then-short-clause-reads
returns-then-short-clause-reads g c = nothing_read_of _ (λ e. absurd (no_err _ (Host Device) e))

pub returns-in_err-too_long-clause-reads : goal.returns-in_err-too_long-clause-reads
returns-in_err-too_long-clause-reads g c =
    let p = err_from_is_err_and c.from_residual.result c.from_residual.ensures.1 in read_of c.in_err-too_long.ensures.reads _ (λ e. host_device _ p.0 _ p.1 p.2 e)

pub returns-clause-short : goal.returns-clause-short
returns-clause-short g c =
    let its = c.args.row.now in
    on_ok_weaker c.refuse.result
    (λ none.
    told_as c.in_ok-too_long.ensures.refusal (λ w. its.switches ≡ true → AreOwedShort w.leaves)
    (λ w is told. owed_short its.switches its.moves its.system w.leaves (sym told ∙ none)))
    c.refuse.ensures.not_refused

pub returns-clause-refused : goal.returns-clause-refused
returns-clause-refused g c why e =
    let its = c.args.row.now in
    told_as c.in_ok-too_long.ensures.refusal (λ w. too_long_by its.switches its.moves its.system (gens_to its.moves its.system w.leaves) w.leaves ≡ Some why)
    (λ w is told. sym told ∙ c.refuse.ensures.refused why e)

pub returns-clause-reads : goal.returns-clause-reads
returns-clause-reads g c = read_of c.too_long.ensures.reads _ (λ e. absurd (c.refuse.ensures.no_host e))
