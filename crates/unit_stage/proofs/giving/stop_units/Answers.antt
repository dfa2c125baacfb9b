use Rattle.std.proofs.Common.{◌≡◌, ap, ◌∙◌}
use Rattle.std.proofs.lemmas.Result.{err_from_is_err_and}
use Rattle.host_trait.specs.World.{seen}
use Rattle.host_trait.proofs.Causes.{cause_on}
use Rattle.host_trait.proofs.Moments.{goes_on, leads_then, passes_as}
use Rattle.owed_log.specs.Writing.{recorded}
use Rattle.tree_put.specs.Written.{WritesOnly}
use Rattle.unit_stage.specs.Owned.{owns_units}
use Rattle.unit_stage.specs.Steps.{IsStopMoment, with_stops}
use Rattle.switch_parts.proofs.Faults.{handed}
use Rattle.unit_stage.proofs.CauseLemmas.{cause_end}
use Rattle.unit_stage.proofs.StepLemmas.{recording, seen_with_calls, stopping}
use Rattle.unit_stage.proofs.WrittenLemmas.{owed_written, then_called}
use Rattle.unit_stage.proofs.giving.stop_units.Goals as goal

pub returns-in_err-record_kept-clause-moments : goal.returns-in_err-record_kept-clause-moments
returns-in_err-record_kept-clause-moments g c =
    let write = c.args.write.now in let stops = c.args.stops.now in
    passes_as c.record_kept.ensures.moments (IsStopMoment write stops) (λ w m is moment. recording write stops w m moment)

pub returns-in_err-call_units-clause-moments : goal.returns-in_err-call_units-clause-moments
returns-in_err-call_units-clause-moments g c =
    let write = c.args.write.now in let stops = c.args.stops.now in
    goes_on c.record_kept.ensures.moments c.in_ok-record_kept.ensures.ok c.call_units.ensures.moments (IsStopMoment write stops)
    (λ w m is moment. recording write stops w m moment) (λ w v m is is_v came moment. stopping write stops w v m came moment)

pub returns-clause-ok : goal.returns-clause-ok
returns-clause-ok g c =
    let write = c.args.write.now in let stops = c.args.stops.now in
    leads_then c.in_ok-record_kept.ensures.ok c.in_ok-call_units.ensures.ok (λ w v. seen v ≡ seen (with_stops write stops w))
    (λ w v u is is_v came made. ap seen made ∙ seen_with_calls stops v (recorded write w) came)

pub returns-clause-moments : goal.returns-clause-moments
returns-clause-moments g c =
    let write = c.args.write.now in let stops = c.args.stops.now in
    goes_on c.record_kept.ensures.moments c.in_ok-record_kept.ensures.ok c.call_units.ensures.moments (IsStopMoment write stops)
    (λ w m is moment. recording write stops w m moment) (λ w v m is is_v came moment. stopping write stops w v m came moment)

pub returns-in_err-call_units-clause-cause : goal.returns-in_err-call_units-clause-cause
returns-in_err-call_units-clause-cause g c =
    let p = err_from_is_err_and c.from_residual-in_err-call_units.result c.from_residual-in_err-call_units.ensures.1 in
    cause_on c.record_kept.ensures.cause c.in_err-call_units.ensures.cause (λ e. handed _ p.0 _ _ p.1 p.2 e)

pub returns-clause-cause : goal.returns-clause-cause
returns-clause-cause g c = cause_end c.record_kept.ensures.cause c.call_units.ensures.cause

pub returns-clause-written : goal.returns-clause-written
returns-clause-written g c =
    leads_then c.in_ok-record_kept.ensures.written c.in_ok-call_units.ensures.ok (WritesOnly owns_units)
    (λ w v u is is_v writes made. then_called c.args.stops.now w v u (owed_written w v writes) made)
