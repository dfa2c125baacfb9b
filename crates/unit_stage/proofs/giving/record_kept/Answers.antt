use Rattle.std.proofs.Common.{◌≡◌, ap, ◌∙◌}
use Rattle.std.proofs.lemmas.Result.{err_from_is_err_and}
use Rattle.host_trait.specs.World.{seen}
use Rattle.host_trait.proofs.Causes.{cause_on}
use Rattle.host_trait.proofs.Moments.{goes_on_same, leads_then}
use Rattle.owed_log.specs.Places.{is_owed_place}
use Rattle.owed_log.specs.Writing.{IsRecordMoment, recorded}
use Rattle.tree_put.specs.Written.{WritesOnly}
use Rattle.tree_put.proofs.WrittenLemmas.{writes_none, writes_then}
use Rattle.switch_parts.proofs.Faults.{handed}
use Rattle.unit_stage.proofs.CauseLemmas.{cause_end}
use Rattle.unit_stage.proofs.giving.record_kept.Goals as goal

pub returns-in_err-sync-clause-moments : goal.returns-in_err-sync-clause-moments
returns-in_err-sync-clause-moments g c =
    let way = c.record.ensures.moments in
    goes_on_same way way.tells c.sync.ensures.reads.moments (IsRecordMoment c.args.write.now) (λ w m is moment. moment) (λ w v is moment. moment)

pub returns-in_err-sync-clause-cause : goal.returns-in_err-sync-clause-cause
returns-in_err-sync-clause-cause g c =
    let p = err_from_is_err_and c.from_residual-in_err-sync.result c.from_residual-in_err-sync.ensures.1 in
    cause_on c.record.ensures.cause c.in_err-sync.ensures.reads.cause (λ e. handed _ p.0 _ _ p.1 p.2 e)

pub returns-clause-ok : goal.returns-clause-ok
returns-clause-ok g c =
    leads_then c.in_ok-record.ensures.ok c.sync.ensures.reads.moments.tells (λ w u. seen u ≡ seen (recorded c.args.write.now w)) (λ w v u is is_v came same. ap seen same ∙ came)

pub returns-clause-moments : goal.returns-clause-moments
returns-clause-moments g c =
    let way = c.record.ensures.moments in
    goes_on_same way way.tells c.sync.ensures.reads.moments (IsRecordMoment c.args.write.now) (λ w m is moment. moment) (λ w v is moment. moment)

pub returns-clause-cause : goal.returns-clause-cause
returns-clause-cause g c = cause_end c.record.ensures.cause c.sync.ensures.reads.cause

pub returns-clause-written : goal.returns-clause-written
returns-clause-written g c =
    leads_then c.in_ok-record.ensures.written c.sync.ensures.reads.moments.tells (WritesOnly is_owed_place)
    (λ w v u is is_v writes same. writes_then is_owed_place w v u writes (writes_none is_owed_place v u same))
