use Rattle.std.proofs.Common.{◌<◌, ◌++◌, ◌∷◌, [], Some, sym, subst}
use Rattle.std.proofs.lemmas.Bool.{both_ways}
use Rattle.leaf_limits.specs.declared.too_long.TooLong.{TooLong}
use Rattle.leaf_limits.specs.Limits.{IsFirstOf, leaf_max}
use Rattle.leaf_limits.proofs.LongLemmas.{comes_first, stays_behind}
use Rattle.leaf_limits.proofs.too_long.keep_first.Goals as goal

pub returns-then-not-is_before : goal.returns-then-not-is_before
returns-then-not-is_before c done leaves count past before =
    stays_behind done c.args.place.now leaves c.args.found.now (λ is. both_ways _ c.if-not-is_before.true (c.is_before.ensures.1 is)) before

pub returns : goal.returns
returns c done leaves count past before =
    subst (λ (long : TooLong). IsFirstOf (done ++ c.args.place.now ∷ []) leaves (Some long)) (λ i. record { at = sym c.in_ok-at.ensures i; count = sym count i })
    (comes_first done c.args.place.now leaves c.args.found.now (subst (λ n. leaf_max < n) count past) (c.is_before.ensures.0 c.if-not-is_before.false) before)
