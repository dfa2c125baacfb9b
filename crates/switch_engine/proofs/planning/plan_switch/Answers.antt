use Rattle.std.proofs.Common.{◌≡◌, ◌↔◌, Err, IsTrue, None, Some, sym, ap, ◌∙◌}
use Rattle.std.proofs.lemmas.Result.{err_from_is_err_and}
use Rattle.host_trait.specs.declared.tree.HostFault.TheVariants.{Device}
use Rattle.host_trait.proofs.Moments.{told_as, told_before}
use Rattle.host_trait.proofs.Readings.{nothing_read_of, reads_of, reads_then}
use Rattle.switch_engine.specs.Commands.{switched_by}
use Rattle.switch_engine.specs.Owing.{IsSteadyTo}
use Rattle.switch_engine.specs.Plan.{IsSwitchPlanned}
use Rattle.switch_engine.specs.Rows.{part_if, switch_in}
use Rattle.switch_parts.specs.declared.plan_fault.PlanFault.TheVariants.{Host, Refused}
use Rattle.switch_parts.proofs.Faults.{handed, no_err}
use Rattle.unit_stage.proofs.KnownLemmas.{same_fault}
use Rattle.switch_engine.proofs.PlanLemmas.{activation_refused, steady_off, steady_on, units_refused}
use Rattle.tree_put.proofs.FoundLemmas.{told_still}
use Rattle.switch_engine.proofs.planning.plan_switch.Goals as goal

pub returns-then-not-row-clause-reads : goal.returns-then-not-row-clause-reads
returns-then-not-row-clause-reads g c = nothing_read_of _ (λ e. absurd (no_err _ (Host Device) e))

pub returns-then-not-row-clause-steady : goal.returns-then-not-row-clause-steady
returns-then-not-row-clause-steady g c = record { has = λ w is. steady_off c.args.row.now.start_up c.args.row.now.switches c.args.row.now.system w (c.if-not-row.true) }

pub returns-in_err-units-clause-refused : goal.returns-in_err-units-clause-refused
returns-in_err-units-clause-refused g c why e =
    let p = err_from_is_err_and c.from_residual.result c.from_residual.ensures.1 in
    let its = c.args.row.now in
    told_as (c.in_err-units.ensures.refused why (ap (λ f. Err f) (sym p.2 ∙ same_fault p.0 (Refused why) (sym p.1 ∙ e))))
    (λ w. (part_if its.switches (switch_in its.start_up its.system w.leaves)).refusal w.leaves ≡ Some why)
    (λ w is refused. units_refused its.start_up its.switches its.system w.leaves why c.if-not-row.false refused)

pub plan_activation-requires : goal.plan_activation-requires
plan_activation-requires g c = record { found = told_still c.plan_units.ensures.reads.moments c.in_ok-units.ensures.others }

pub returns-in_err-activation-clause-refused : goal.returns-in_err-activation-clause-refused
returns-in_err-activation-clause-refused g c why e =
    let p = err_from_is_err_and c.from_residual-in_err-activation.result c.from_residual-in_err-activation.ensures.1 in
    let its = c.args.row.now in
    let refused = c.in_err-activation.ensures.refused why (ap (λ f. Err f) (sym p.2 ∙ same_fault p.0 (Refused why) (sym p.1 ∙ e))) in
    told_as (told_before c.plan_units.ensures.reads.moments refused)
    (λ w. (part_if its.switches (switch_in its.start_up its.system w.leaves)).refusal w.leaves ≡ Some why)
    (λ w is refused. activation_refused its.start_up its.switches its.system w.leaves (Some why) c.if-not-row.false (c.in_ok-units.ensures.not_refused.has w is) refused)

pub returns-in_err-activation-clause-reads : goal.returns-in_err-activation-clause-reads
returns-in_err-activation-clause-reads g c =
    let p = err_from_is_err_and c.from_residual-in_err-activation.result c.from_residual-in_err-activation.ensures.1 in
    reads_of (reads_then c.plan_units.ensures.reads c.in_err-activation.ensures.reads) _ (λ e. handed _ p.0 _ _ p.1 p.2 e)

pub returns-clause-plan : goal.returns-clause-plan
returns-clause-plan g c =
    let its = c.args.row.now in
    told_as c.in_ok-units.ensures.plan (λ w. IsSwitchPlanned its.start_up its.switches its.system w (Some (record { units = c.in_ok-units.units; activation = c.in_ok-activation.activation })))
    (λ w is planned. (c.if-not-row.false, planned, (told_before c.plan_units.ensures.reads.moments c.in_ok-activation.ensures.plan).has w is))

pub returns-clause-steady : goal.returns-clause-steady
returns-clause-steady g c =
    told_as c.in_ok-units.ensures.steady (λ w. IsTrue c.in_ok-units.units.steady ↔ IsSteadyTo c.args.row.now.start_up (switched_by c.args.row.now) w)
    (λ w is told. steady_on c.args.row.now.start_up c.args.row.now.switches c.args.row.now.system w c.in_ok-units.units c.if-not-row.false told)

pub returns-clause-not_refused : goal.returns-clause-not_refused
returns-clause-not_refused g c =
    let its = c.args.row.now in
    told_as (told_before c.plan_units.ensures.reads.moments c.in_ok-activation.ensures.not_refused) (λ w. (part_if its.switches (switch_in its.start_up its.system w.leaves)).refusal w.leaves ≡ None)
    (λ w is free. activation_refused its.start_up its.switches its.system w.leaves None c.if-not-row.false (c.in_ok-units.ensures.not_refused.has w is) free)

pub returns-clause-reads : goal.returns-clause-reads
returns-clause-reads g c = reads_of (reads_then c.plan_units.ensures.reads c.plan_activation.ensures.reads) _ (λ e. absurd (no_err _ (Host Device) e))
