use Rattle.std.proofs.Common.{inl, inr, ⊎_elim}
use Rattle.host_trait.proofs.Moments.{passes_as}
use Rattle.tree_put.specs.Put.{IsOldOrGone}
use Rattle.host_trait.proofs.Causes.{cause_ok}
use Rattle.tree_put.proofs.places.drop_leaf.Goals as goal

pub returns-in_err-remove-clause-moments : goal.returns-in_err-remove-clause-moments
returns-in_err-remove-clause-moments g c =
    passes_as c.remove.ensures.moments (IsOldOrGone c.args.at.now)
    (λ w m is moment. ⊎_elim (λ same. inl same) (λ later. ⊎_elim (λ done. inr done) (λ none. absurd none) later) moment)

pub returns-clause-moments : goal.returns-clause-moments
returns-clause-moments g c =
    passes_as c.remove.ensures.moments (IsOldOrGone c.args.at.now)
    (λ w m is moment. ⊎_elim (λ same. inl same) (λ later. ⊎_elim (λ done. inr done) (λ none. absurd none) later) moment)

pub returns-clause-cause : goal.returns-clause-cause
returns-clause-cause g c = cause_ok c.remove.ensures.cause tt
