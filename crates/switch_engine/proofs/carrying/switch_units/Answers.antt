use Rattle.std.proofs.Common.{sym, subst}
use Rattle.owed_log.specs.Writing.{IsFilled}
use Rattle.std.proofs.lemmas.Result.{err_from_is_err_and}
use Rattle.host_trait.proofs.Causes.{cause_on, cause_then}
use Rattle.switch_parts.proofs.Faults.{handed}
use Rattle.unit_stage.specs.PlanCalls.{calls_in}
use Rattle.unit_stage.proofs.CauseLemmas.{cause_end}
use Rattle.switch_engine.proofs.WayOfSwitch.{activation_can, ends, ends_quietly, first_way, second_way, stops_can, third_way, units_can, write_can}
use Rattle.switch_engine.proofs.carrying.switch_units.Goals as goal

pub stop_units-requires-clause-can : goal.stop_units-requires-clause-can
stop_units-requires-clause-can g c =
    let calls = c.calls_of-calls.result in
    write_can c.args.system.now c.args.plan.now c.args.activation.now c.write.result.now calls.stops.now (calls_in calls) c.write.ensures c.calls_of-calls.ensures c.requires.can

pub stop_units-requires-clause-filled : goal.stop_units-requires-clause-filled
stop_units-requires-clause-filled g c = subst IsFilled (sym c.write.ensures) c.requires.filled

pub stop_units-requires-clause-calls : goal.stop_units-requires-clause-calls
stop_units-requires-clause-calls g c =
    let calls = c.calls_of-calls.result in
    stops_can c.args.system.now c.args.plan.now c.args.activation.now c.write.result.now calls.stops.now (calls_in calls) c.write.ensures c.calls_of-calls.ensures c.requires.can

pub returns-in_err-stop_units-clause-moments : goal.returns-in_err-stop_units-clause-moments
returns-in_err-stop_units-clause-moments g c =
    let calls = c.calls_of-calls.result in
    first_way c.args.system.now c.args.plan.now c.args.activation.now c.write.result.now calls.stops.now (calls_in calls) c.write.ensures c.calls_of-calls.ensures c.requires.can c.stop_units.ensures.moments

pub activate-requires : goal.activate-requires
activate-requires g c =
    let calls = c.calls_of-calls.result in
    activation_can c.args.system.now c.args.plan.now c.args.activation.now c.write.result.now calls.stops.now (calls_in calls) c.write.ensures c.calls_of-calls.ensures c.requires.can c.stop_units.ensures.moments c.in_ok-stop_units.ensures.ok

pub returns-in_err-activate-clause-moments : goal.returns-in_err-activate-clause-moments
returns-in_err-activate-clause-moments g c =
    let calls = c.calls_of-calls.result in
    second_way c.args.system.now c.args.plan.now c.args.activation.now c.write.result.now calls.stops.now (calls_in calls) c.write.ensures c.calls_of-calls.ensures c.requires.can c.stop_units.ensures.moments c.in_ok-stop_units.ensures.ok c.activate.ensures.moments

pub bring_units-requires-clause-can : goal.bring_units-requires-clause-can
bring_units-requires-clause-can g c =
    let calls = c.calls_of-calls.result in
    units_can c.args.system.now c.args.plan.now c.args.activation.now c.write.result.now calls.stops.now (calls_in calls) c.write.ensures c.calls_of-calls.ensures c.requires.can c.stop_units.ensures.moments c.in_ok-stop_units.ensures.ok c.activate.ensures.moments c.in_ok-activate.ensures.ok

pub returns-in_err-bring_units-clause-moments : goal.returns-in_err-bring_units-clause-moments
returns-in_err-bring_units-clause-moments g c =
    let calls = c.calls_of-calls.result in
    third_way c.args.system.now c.args.plan.now c.args.activation.now c.write.result.now calls.stops.now (calls_in calls) c.write.ensures c.calls_of-calls.ensures c.requires.can c.stop_units.ensures.moments c.in_ok-stop_units.ensures.ok c.activate.ensures.moments c.in_ok-activate.ensures.ok c.bring_units.ensures.moments

pub returns-clause-ok : goal.returns-clause-ok
returns-clause-ok g c =
    let calls = c.calls_of-calls.result in
    ends c.args.system.now c.args.plan.now c.args.activation.now c.write.result.now calls.stops.now (calls_in calls) c.write.ensures c.calls_of-calls.ensures c.requires.can c.stop_units.ensures.moments c.in_ok-stop_units.ensures.ok c.activate.ensures.moments c.in_ok-activate.ensures.ok c.in_ok-bring_units.ensures.ok

pub returns-clause-moments : goal.returns-clause-moments
returns-clause-moments g c =
    let calls = c.calls_of-calls.result in
    third_way c.args.system.now c.args.plan.now c.args.activation.now c.write.result.now calls.stops.now (calls_in calls) c.write.ensures c.calls_of-calls.ensures c.requires.can c.stop_units.ensures.moments c.in_ok-stop_units.ensures.ok c.activate.ensures.moments c.in_ok-activate.ensures.ok c.bring_units.ensures.moments

pub returns-in_err-activate-clause-cause : goal.returns-in_err-activate-clause-cause
returns-in_err-activate-clause-cause g c =
    let p = err_from_is_err_and c.from_residual-in_err-activate.result c.from_residual-in_err-activate.ensures.1 in
    cause_on c.stop_units.ensures.cause c.in_err-activate.ensures.cause (λ e. handed _ p.0 _ _ p.1 p.2 e)

pub returns-in_err-bring_units-clause-cause : goal.returns-in_err-bring_units-clause-cause
returns-in_err-bring_units-clause-cause g c =
    let p = err_from_is_err_and c.from_residual-in_err-bring_units.result c.from_residual-in_err-bring_units.ensures.1 in
    cause_on (cause_then c.stop_units.ensures.cause c.activate.ensures.cause) c.in_err-bring_units.ensures.cause (λ e. handed _ p.0 _ _ p.1 p.2 e)

pub returns-clause-cause : goal.returns-clause-cause
returns-clause-cause g c = cause_end (cause_then c.stop_units.ensures.cause c.activate.ensures.cause) c.bring_units.ensures.cause

pub returns-clause-quiet : goal.returns-clause-quiet
returns-clause-quiet g c =
    let calls = c.calls_of-calls.result in
    ends_quietly c.args.system.now c.args.plan.now c.args.activation.now c.write.result.now calls.stops.now (calls_in calls) c.write.ensures c.calls_of-calls.ensures c.requires.can c.stop_units.ensures.moments c.in_ok-stop_units.ensures.ok c.activate.ensures.moments c.in_ok-activate.ensures.ok
    c.in_ok-bring_units.ensures.ok c.in_ok-stop_units.ensures.written c.in_ok-activate.ensures.quiet c.in_ok-bring_units.ensures.written
