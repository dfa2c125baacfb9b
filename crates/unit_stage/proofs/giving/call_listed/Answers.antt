use Rattle.std.proofs.Common.{◌≡◌, is_some, ap, ◌∙◌, inl}
use Rattle.std.proofs.lemmas.Result.{err_from_is_err_and}
use Rattle.std.specs.FinMap.{get}
use Rattle.host_trait.specs.Change.{finished}
use Rattle.host_trait.specs.World.{IsFileAt, WorldState, file_bytes}
use Rattle.host_trait.proofs.Causes.{cause_on}
use Rattle.host_trait.proofs.Moments.{goes_on, leads_then, passes_as, told_after}
use Rattle.owed_log.specs.Places.{log_place}
use Rattle.owed_log.specs.Writing.{clearing}
use Rattle.unit_stage.specs.Steps.{IsClearingMoment, with_cleared}
use Rattle.switch_parts.proofs.Faults.{handed}
use Rattle.unit_stage.proofs.CauseLemmas.{cause_end}
use Rattle.unit_stage.proofs.StepLemmas.{clearing_after}
use Rattle.unit_stage.proofs.giving.call_listed.Goals as goal

pub returns-in_err-call_kept-clause-moments : goal.returns-in_err-call_kept-clause-moments
returns-in_err-call_kept-clause-moments g c =
    passes_as c.call_kept.ensures.moments (IsClearingMoment c.args.which c.args.calls.now) (λ w m is moment. inl moment)

pub returns-in_err-clear-clause-moments : goal.returns-in_err-clear-clause-moments
returns-in_err-clear-clause-moments g c =
    goes_on c.call_kept.ensures.moments c.in_ok-call_kept.ensures.ok c.clear.ensures.moments (IsClearingMoment c.args.which c.args.calls.now)
    (λ w m is moment. inl moment) (λ w v m is is_v made moment. clearing_after c.args.which c.args.calls.now w v m made moment)

pub returns-clause-ok : goal.returns-clause-ok
returns-clause-ok g c =
    leads_then c.in_ok-call_kept.ensures.ok c.in_ok-clear.ensures.ok (λ w u. u ≡ with_cleared c.args.which c.args.calls.now w)
    (λ w v u is is_v made gone. gone ∙ ap (finished (clearing c.args.which)) made)

pub returns-clause-moments : goal.returns-clause-moments
returns-clause-moments g c =
    goes_on c.call_kept.ensures.moments c.in_ok-call_kept.ensures.ok c.clear.ensures.moments (IsClearingMoment c.args.which c.args.calls.now)
    (λ w m is moment. inl moment) (λ w v m is is_v made moment. clearing_after c.args.which c.args.calls.now w v m made moment)

pub returns-in_err-clear-clause-cause : goal.returns-in_err-clear-clause-cause
returns-in_err-clear-clause-cause g c =
    let p = err_from_is_err_and c.from_residual-in_err-clear.result c.from_residual-in_err-clear.ensures.1 in
    cause_on c.call_kept.ensures.cause c.in_err-clear.ensures.cause (λ e. handed _ p.0 _ _ p.1 p.2 e)

pub returns-clause-cause : goal.returns-clause-cause
returns-clause-cause g c = cause_end c.call_kept.ensures.cause c.clear.ensures.cause

pub clear-requires : goal.clear-requires
clear-requires g c = record {
  file = λ other.
      told_after c.call_kept.ensures.moments c.in_ok-call_kept.ensures.ok (λ w. IsFileAt w.leaves log_place)
      (λ w v is made. ap (λ (x : WorldState). is_some (file_bytes (get x.leaves log_place))) made ∙ (c.requires.file other).has w is);
}
