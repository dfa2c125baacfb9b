use Rattle.std.proofs.Common.{◌≡◌, true, IfSome, sym, subst, ◌∙◌, inr}
use Rattle.switch_names.specs.Path.{is_below}
use Rattle.host_trait.proofs.Above.{above_is_left, next_above, parent_above}
use Rattle.etc_clean.proofs.SearchLemmas.{IsFreeBut, above_found, free_last, free_next}
use Rattle.etc_clean.proofs.search.has_above.Goals as goal

pub loop-next-init : goal.loop-next-init
loop-next-init c = record {
  above = parent_above c.args.name.now c.in_ok-next.next c.in_ok-next.ensures.some;
  free = λ sorted q line. inr (above_is_left c.args.name.now c.in_ok-next.next c.in_ok-next.ensures.none c.in_ok-next.ensures.some q line);
}

pub returns-then-contains : goal.returns-then-contains
returns-then-contains c = λ sorted.
    let above = subst (λ o. IfSome o (λ p. is_below c.args.name.now p ≡ true)) c.in-Some.is c.loop-next.invariant.above in
    above_found c.args.names.now c.args.name.now c.in-Some.place above (sym (c.contains.ensures sorted) ∙ c.if-contains.true)

pub loop-next-preserved : goal.loop-next-preserved
loop-next-preserved c =
    let above = subst (λ o. IfSome o (λ p. is_below c.args.name.now p ≡ true)) c.in-Some.is c.loop-next.invariant.above in
    record {
      above = next_above c.args.name.now c.in-Some.place c.in_ok-next-2.next above c.in_ok-next-2.ensures.some;
      free = λ sorted.
          free_next c.args.names.now c.args.name.now c.in-Some.place c.in_ok-next-2.next
          (subst (λ o. IsFreeBut c.args.names.now c.args.name.now o) c.in-Some.is (c.loop-next.invariant.free sorted))
          (sym (c.contains.ensures sorted) ∙ c.if-contains.false) c.in_ok-next-2.ensures.none c.in_ok-next-2.ensures.some;
    }

pub returns : goal.returns
returns c = λ sorted.
    sym (free_last c.args.names.now c.args.name.now (subst (λ o. IsFreeBut c.args.names.now c.args.name.now o) c.in_default.is (c.loop-next.invariant.free sorted)))
