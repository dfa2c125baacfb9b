use Rattle.std.proofs.Common.{ℕ, ◌++◌, ◌∷◌, [], List, length, Option, unwrap_or, ap, subst, sym, ◌∙◌, arith}
use Rattle.host_trait.proofs.Moments.{told_as}
use Rattle.leaf_limits.specs.Limits.{IsFirstOf}
use Rattle.leaf_limits.proofs.LongLemmas.{stays_within}
use Rattle.leaf_limits.proofs.too_long.content_noted.Goals as goal
use Rattle.leaf_limits.proofs.too_long.content_noted.Goals.{then-count-gt-LEAF_MAX+in_ok-keep_first, else-count-gt-LEAF_MAX}

pub returns-clause-noted : goal.returns-clause-noted
returns-clause-noted g c done =
    let place = c.args.at.now in
    told_as c.in_ok-content.ensures.content _ (λ w world content before.
    let count = c.length_of-count.ensures ∙ ap (λ (o : Option (List ℕ)). length (unwrap_or o [])) content in
    elim c.if-count-gt-LEAF_MAX.branch [
      | then-count-gt-LEAF_MAX+in_ok-keep_first b ↦
          subst (IsFirstOf (done ++ place ∷ []) w.leaves) (sym b.long-is) (b.in_ok-keep_first.ensures done w.leaves count b.if-count-gt-LEAF_MAX.true before)
      | else-count-gt-LEAF_MAX b ↦
          let within = b.if-count-gt-LEAF_MAX.false in
          subst (IsFirstOf (done ++ place ∷ []) w.leaves) (sym b.long-is) (stays_within done place w.leaves (omega (arith, count, within)) c.args.long.now before)
    ])
