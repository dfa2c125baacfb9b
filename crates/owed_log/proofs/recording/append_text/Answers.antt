use Rattle.std.proofs.Common.{◌≢◌, ◌∷◌, ◌++◌, [], refl, inl, sym, ap, subst, ◌∙◌}
use Rattle.std.proofs.lemmas.Result.{on_ok_weaker}
use Rattle.host_trait.specs.Change.{Change, IsMoment}
use Rattle.host_trait.specs.World.{WorldState, stage}
use Rattle.host_trait.proofs.Moments.{leads_as, started}
use Rattle.tree_put.specs.Written.{WritesOnly}
use Rattle.owed_log.specs.Places.{is_owed_place, log_place}
use Rattle.owed_log.proofs.ContentLemmas.{log_other}
use Rattle.owed_log.proofs.WrittenLemmas.{log_written}
use Rattle.owed_log.proofs.recording.append_text.Goals as goal

pub returns-in_err-at-clause-moments : goal.returns-in_err-at-clause-moments
returns-in_err-at-clause-moments g c = started (IsMoment (Change.Append log_place c.args.text.now)) (λ w is. inl refl)

pub append-requires-clause-other : goal.append-requires-clause-other
append-requires-clause-other g c = subst (λ p. p ≢ stage) (sym c.in_ok-at.ensures) log_other

pub returns-clause-written : goal.returns-clause-written
returns-clause-written g c =
    on_ok_weaker c.append.result
    (λ led. leads_as led (WritesOnly is_owed_place)
    (λ w v is now. log_written w v (ap (λ (x : WorldState). x.written) now ∙ ap (λ p. w.written ++ p ∷ []) c.in_ok-at.ensures)))
    c.append.ensures.ok
