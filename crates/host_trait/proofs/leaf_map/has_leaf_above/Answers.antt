use Rattle.std.proofs.Common.{◌≡◌, true, Option, None, Some, IsSome, refl, IfSome, sym, subst, ap, ◌∙◌, inr}
use Rattle.std.specs.Borrow.{Bor}
use Rattle.std.specs.FinMap.{get}
use Rattle.std.specs.Option.{is_some, option_copied}
use Rattle.switch_names.specs.Path.{is_below}
use Rattle.switch_names.proofs.Outcomes.{none_there}
use Rattle.host_trait.specs.LeafMap.{leaves_of}
use Rattle.host_trait.proofs.Above.{IsFreeBut, above_is_left, free_last, free_next, next_above, parent_above}
use Rattle.host_trait.proofs.KeyTests.{all_fail, one_passes}
use Rattle.host_trait.proofs.leaf_map.has_leaf_above.Goals as goal

is_some_copied : {X : Type 0} (o : Option (Bor X)) → is_some o ≡ true → IsSome (option_copied o)
is_some_copied None is = absurd cc
is_some_copied (Some x) is = refl

pub loop-next-init : goal.loop-next-init
loop-next-init c = record {
  above = parent_above c.args.at.now c.in_ok-next.next c.in_ok-next.ensures.some;
  free = λ q line. inr (above_is_left c.args.at.now c.in_ok-next.next c.in_ok-next.ensures.none c.in_ok-next.ensures.some q line);
}

pub returns-then-is_some : goal.returns-then-is_some
returns-then-is_some c =
    let above = subst (λ o. IfSome o (λ p. is_below c.args.at.now p ≡ true)) c.in-Some.is c.loop-next.invariant.above in
    sym (one_passes (λ q. is_below c.args.at.now q) (leaves_of c.args.leaves.now) c.in-Some.place above
    (subst (λ o. IsSome o) c.find_leaf.ensures (is_some_copied c.find_leaf.result (sym c.is_some.ensures ∙ c.if-is_some.true))))

pub loop-next-preserved : goal.loop-next-preserved
loop-next-preserved c =
    let above = subst (λ o. IfSome o (λ p. is_below c.args.at.now p ≡ true)) c.in-Some.is c.loop-next.invariant.above in
    let gone : get (leaves_of c.args.leaves.now) c.in-Some.place ≡ None =
    sym c.find_leaf.ensures ∙ ap option_copied (none_there c.find_leaf.result (sym c.is_some.ensures ∙ c.if-is_some.false)) in
    record {
      above = next_above c.args.at.now c.in-Some.place c.in_ok-next-2.next above c.in_ok-next-2.ensures.some;
      free =
          free_next (λ q. get (leaves_of c.args.leaves.now) q ≡ None) c.args.at.now c.in-Some.place c.in_ok-next-2.next
          (subst (λ o. IsFreeBut (λ q. get (leaves_of c.args.leaves.now) q ≡ None) c.args.at.now o) c.in-Some.is c.loop-next.invariant.free)
          gone c.in_ok-next-2.ensures.none c.in_ok-next-2.ensures.some;
    }

pub returns : goal.returns
returns c =
    sym (all_fail (λ q. is_below c.args.at.now q) (leaves_of c.args.leaves.now)
    (free_last (λ q. get (leaves_of c.args.leaves.now) q ≡ None) c.args.at.now
    (subst (λ o. IsFreeBut (λ q. get (leaves_of c.args.leaves.now) q ≡ None) c.args.at.now o) c.in_default.is c.loop-next.invariant.free)))
