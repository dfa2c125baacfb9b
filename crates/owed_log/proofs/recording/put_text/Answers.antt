use Rattle.std.proofs.Common.{◌∷◌, ◌++◌, [], refl, inl, sym, ap, subst, ◌∙◌}
use Rattle.std.proofs.lemmas.Result.{on_ok_weaker}
use Rattle.host_trait.specs.Leaf.{open_file}
use Rattle.host_trait.specs.World.{stage}
use Rattle.host_trait.proofs.Moments.{leads_as, started}
use Rattle.tree_put.specs.Put.{AreApart, IsOldOrNew}
use Rattle.tree_put.specs.Written.{WritesOnly}
use Rattle.owed_log.specs.Places.{is_owed_place, log_place}
use Rattle.owed_log.proofs.ContentLemmas.{log_apart}
use Rattle.owed_log.proofs.WrittenLemmas.{log_written}
use Rattle.owed_log.proofs.recording.put_text.Goals as goal

pub returns-in_err-at-clause-moments : goal.returns-in_err-at-clause-moments
returns-in_err-at-clause-moments g c = started (IsOldOrNew log_place (open_file c.args.text.now)) (λ w is. inl refl)

pub returns-in_err-leaf-clause-moments : goal.returns-in_err-leaf-clause-moments
returns-in_err-leaf-clause-moments g c = started (IsOldOrNew log_place (open_file c.args.text.now)) (λ w is. inl refl)

pub put-requires-clause-apart : goal.put-requires-clause-apart
put-requires-clause-apart g c = subst (λ p. AreApart p stage) (sym c.in_ok-at.ensures) log_apart

pub returns-clause-written : goal.returns-clause-written
returns-clause-written g c =
    on_ok_weaker c.put.result
    (λ led. leads_as led (WritesOnly is_owed_place) (λ w v is now. log_written w v (now ∙ ap (λ p. w.written ++ p ∷ []) c.in_ok-at.ensures)))
    c.put.ensures.written
