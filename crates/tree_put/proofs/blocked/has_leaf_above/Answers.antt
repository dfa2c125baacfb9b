use Rattle.std.proofs.Common.{◌≡◌, true, false, List, ℕ, IsSome, IfSome, sym, subst, ◌∙◌, inr}
use Rattle.std.specs.FinMap.{keys}
use Rattle.std.specs.List.{list_any}
use Rattle.switch_names.specs.Path.{is_below}
use Rattle.switch_names.proofs.Outcomes.{none_there}
use Rattle.host_trait.proofs.Moments.{told_as}
use Rattle.tree_put.proofs.BlockedLemmas.{IsEmptyAt, none_above}
use Rattle.host_trait.proofs.Above.{IsFreeBut, above_is_left, free_next, next_above, parent_above}
use Rattle.host_trait.proofs.KeyTests.{one_passes}
use Rattle.host_trait.proofs.Readings.{nothing_read, nothing_read_ok, no_device, read_handed, read_ok, read_starved, read_then, told_read}
use Rattle.tree_put.proofs.blocked.has_leaf_above.Goals as goal

pub loop-next-init : goal.loop-next-init
loop-next-init g c = record {
  reads = nothing_read_ok tt;
  above = parent_above c.args.at.now c.in_ok-next.next c.in_ok-next.ensures.some;
  free = record { has = λ w is q line. inr (above_is_left c.args.at.now c.in_ok-next.next c.in_ok-next.ensures.none c.in_ok-next.ensures.some q line) };
}

pub returns-then-is_some-clause-above : goal.returns-then-is_some-clause-above
returns-then-is_some-clause-above g c =
    let read = told_read c.loop-next.invariant.reads c.in_ok-leaf.ensures.leaf in
    let stands : IsSome c.in_ok-leaf.leaf = sym c.is_some.ensures ∙ c.if-is_some.true in
    let above = subst (λ o. IfSome o (λ p. is_below c.args.at.now p ≡ true)) c.in-Some.is c.loop-next.invariant.above in
    record {
      has = λ w is.
          sym (one_passes (λ q. is_below c.args.at.now q) w.leaves c.in-Some.place above (subst (λ o. IsSome o) (read.has w is) stands));
    }

pub loop-next-preserved : goal.loop-next-preserved
loop-next-preserved g c =
    let read = told_read c.loop-next.invariant.reads c.in_ok-leaf.ensures.leaf in
    let is_none = none_there c.in_ok-leaf.leaf (sym c.is_some.ensures ∙ c.if-is_some.false) in
    let above = subst (λ o. IfSome o (λ p. is_below c.args.at.now p ≡ true)) c.in-Some.is c.loop-next.invariant.above in
    record {
      reads = read_ok (read_then c.loop-next.invariant.reads c.read.ensures.reads) tt;
      above = next_above c.args.at.now c.in-Some.place c.in_ok-next-2.next above c.in_ok-next-2.ensures.some;
      free = record {
        has = λ w is.
            free_next (IsEmptyAt w.leaves) c.args.at.now c.in-Some.place c.in_ok-next-2.next
            (subst (λ o. IsFreeBut (IsEmptyAt w.leaves) c.args.at.now o) c.in-Some.is (c.loop-next.invariant.free.has w is))
            (sym (read.has w is) ∙ is_none) c.in_ok-next-2.ensures.none c.in_ok-next-2.ensures.some;
      };
    }

pub returns-clause-above : goal.returns-clause-above
returns-clause-above g c =
    told_as c.loop-next.invariant.free (λ w. false ≡ list_any {X = List ℕ} (λ q. is_below c.args.at.now q) (keys w.leaves))
    (λ w is free. sym (none_above c.args.at.now w.leaves (subst (λ o. IsFreeBut (IsEmptyAt w.leaves) c.args.at.now o) c.in_default.is free)))

pub returns-in_err-leaf-clause-reads : goal.returns-in_err-leaf-clause-reads
returns-in_err-leaf-clause-reads g c = read_handed (read_then c.loop-next.invariant.reads c.in_err-leaf.ensures.reads) _ c.from_residual-in_err-leaf.ensures.1

pub returns-then-is_some-clause-reads : goal.returns-then-is_some-clause-reads
returns-then-is_some-clause-reads g c = read_ok (read_then c.loop-next.invariant.reads c.read.ensures.reads) true

pub returns-in_err-next-2-clause-reads : goal.returns-in_err-next-2-clause-reads
returns-in_err-next-2-clause-reads g c = read_starved (read_then c.loop-next.invariant.reads c.read.ensures.reads) _ c.from_residual-in_err-next-2.ensures.1

pub returns-clause-reads : goal.returns-clause-reads
returns-clause-reads g c = read_ok c.loop-next.invariant.reads false

pub returns-in_err-next-clause-reads : goal.returns-in_err-next-clause-reads
returns-in_err-next-clause-reads g c = nothing_read _ (no_device _ c.from_residual.ensures.1)
