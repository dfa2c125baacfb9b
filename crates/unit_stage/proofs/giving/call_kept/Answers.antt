use Rattle.std.proofs.Common.{◌≡◌, ◌∙◌}
use Rattle.std.proofs.lemmas.Result.{err_from_is_err_and}
use Rattle.host_trait.proofs.Causes.{cause_on}
use Rattle.host_trait.proofs.Moments.{goes_on_same, leads_then}
use Rattle.unit_stage.specs.Acts.{IsPerforming, with_calls}
use Rattle.switch_parts.proofs.Faults.{handed}
use Rattle.unit_stage.proofs.CauseLemmas.{cause_end}
use Rattle.unit_stage.proofs.giving.call_kept.Goals as goal

pub returns-in_err-sync-clause-moments : goal.returns-in_err-sync-clause-moments
returns-in_err-sync-clause-moments g c =
    let way = c.call_units.ensures.moments in
    goes_on_same way way.tells c.sync.ensures.reads.moments (IsPerforming c.args.calls.now) (λ w m is moment. moment) (λ w v is moment. moment)

pub returns-in_err-sync-clause-cause : goal.returns-in_err-sync-clause-cause
returns-in_err-sync-clause-cause g c =
    let p = err_from_is_err_and c.from_residual-in_err-sync.result c.from_residual-in_err-sync.ensures.1 in
    cause_on c.call_units.ensures.cause c.in_err-sync.ensures.reads.cause (λ e. handed _ p.0 _ _ p.1 p.2 e)

pub returns-clause-ok : goal.returns-clause-ok
returns-clause-ok g c =
    leads_then c.in_ok-call_units.ensures.ok c.sync.ensures.reads.moments.tells (λ w u. u ≡ with_calls c.args.calls.now w) (λ w v u is is_v made same. same ∙ made)

pub returns-clause-moments : goal.returns-clause-moments
returns-clause-moments g c =
    let way = c.call_units.ensures.moments in
    goes_on_same way way.tells c.sync.ensures.reads.moments (IsPerforming c.args.calls.now) (λ w m is moment. moment) (λ w v is moment. moment)

pub returns-clause-cause : goal.returns-clause-cause
returns-clause-cause g c = cause_end c.call_units.ensures.cause c.sync.ensures.reads.cause
