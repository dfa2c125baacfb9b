use Rattle.std.proofs.Common.{◌∷◌, ◌++◌, [], refl, inl, ap, ◌∙◌}
use Rattle.std.proofs.lemmas.Result.{on_ok_weaker}
use Rattle.host_trait.specs.Change.{Change, IsMoment}
use Rattle.host_trait.specs.World.{WorldState}
use Rattle.host_trait.proofs.Moments.{leads_as, started}
use Rattle.tree_put.specs.Written.{WritesOnly}
use Rattle.owed_log.specs.Places.{is_owed_place, log_place}
use Rattle.owed_log.proofs.WrittenLemmas.{log_written}
use Rattle.owed_log.proofs.clearing.remove_log.Goals as goal

pub returns-in_err-at-clause-moments : goal.returns-in_err-at-clause-moments
returns-in_err-at-clause-moments g c = started (IsMoment (Change.Remove log_place)) (λ w is. inl refl)

pub returns-clause-written : goal.returns-clause-written
returns-clause-written g c =
    on_ok_weaker c.remove.result
    (λ led. leads_as led (WritesOnly is_owed_place)
    (λ w v is now. log_written w v (ap (λ (x : WorldState). x.written) now ∙ ap (λ p. w.written ++ p ∷ []) c.in_ok-at.ensures)))
    c.remove.ensures.ok
