use Rattle.std.proofs.Common.{◌≡◌, Err, None, Some, sym, ap, ◌∙◌}
use Rattle.std.proofs.lemmas.Result.{err_from_is_err_and}
use Rattle.host_trait.specs.declared.tree.HostFault.TheVariants.{Device}
use Rattle.host_trait.proofs.Moments.{told_as}
use Rattle.host_trait.proofs.Readings.{nothing_read_of, reads_of}
use Rattle.switch_engine.specs.Rows.{default_if, gens_to}
use Rattle.switch_parts.specs.declared.plan_fault.PlanFault.TheVariants.{Host, Refused}
use Rattle.switch_parts.proofs.Faults.{handed, no_err}
use Rattle.unit_stage.proofs.KnownLemmas.{same_fault}
use Rattle.switch_engine.proofs.PlanLemmas.{default_refused, goal_refused, past_of}
use Rattle.switch_engine.proofs.planning.plan_default.Goals as goal

pub returns-in_default-clause-reads : goal.returns-in_default-clause-reads
returns-in_default-clause-reads g c = nothing_read_of _ (λ e. absurd (no_err _ (Host Device) e))

pub returns-in_err-plan-clause-refused : goal.returns-in_err-plan-clause-refused
returns-in_err-plan-clause-refused g c why e =
    let p = err_from_is_err_and c.from_residual.result c.from_residual.ensures.1 in
    let its = c.args.row.now in
    told_as (c.in_err-plan.ensures.refused why (ap (λ f. Err f) (sym p.2 ∙ same_fault p.0 (Refused why) (sym p.1 ∙ e))))
    (λ w. (default_if its.moves its.system (gens_to its.moves its.system w.leaves)).refusal w.leaves ≡ Some why)
    (λ w is refused. default_refused its.moves c.in-Some.to its.system w.leaves why c.in-Some.is refused)

pub returns-in_err-refuse-clause-refused : goal.returns-in_err-refuse-clause-refused
returns-in_err-refuse-clause-refused g c why e =
    let p = err_from_is_err_and c.from_residual-in_err-refuse.result c.from_residual-in_err-refuse.ensures.1 in
    let its = c.args.row.now in
    let free = c.in_ok-plan.ensures.not_refused in
    told_as c.requires.past
    (λ w. (default_if its.moves its.system (gens_to its.moves its.system w.leaves)).refusal w.leaves ≡ Some why)
    (λ w is past. goal_refused its.moves c.in-Some.to its.system w.leaves (Some why) c.in-Some.is (free.has w is)
    (sym (c.goal_refusal.ensures w.leaves (past_of its.moves c.in-Some.to w.leaves c.args.past c.in-Some.is past)) ∙ c.in_err-refuse.ensures.refused why (ap (λ f. Err f) (sym p.2 ∙ same_fault p.0 (Refused why) (sym p.1 ∙ e)))))

pub returns-in_err-refuse-clause-reads : goal.returns-in_err-refuse-clause-reads
returns-in_err-refuse-clause-reads g c =
    let p = err_from_is_err_and c.from_residual-in_err-refuse.result c.from_residual-in_err-refuse.ensures.1 in
    reads_of c.plan_boot_default.ensures.reads _ (λ e. absurd (c.in_err-refuse.ensures.no_host (handed _ p.0 _ _ p.1 p.2 e)))

pub returns-clause-not_refused : goal.returns-clause-not_refused
returns-clause-not_refused g c =
    let its = c.args.row.now in
    let free = c.in_ok-plan.ensures.not_refused in
    told_as c.requires.past
    (λ w. (default_if its.moves its.system (gens_to its.moves its.system w.leaves)).refusal w.leaves ≡ None)
    (λ w is past. goal_refused its.moves c.in-Some.to its.system w.leaves None c.in-Some.is (free.has w is)
    (sym (c.goal_refusal.ensures w.leaves (past_of its.moves c.in-Some.to w.leaves c.args.past c.in-Some.is past)) ∙ c.in_ok-refuse.ensures.not_refused))

pub returns-clause-reads : goal.returns-clause-reads
returns-clause-reads g c = reads_of c.plan_boot_default.ensures.reads _ (λ e. absurd (no_err _ (Host Device) e))
