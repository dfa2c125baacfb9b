use Rattle.std.proofs.Common.{◌≡◌, ◌||◌, ◌+◌, ◌<◌, ℕ, true, false, List, length, get_or, take, is_some, sym, ap, ◌∙◌, refl}
use Rattle.std.proofs.lemmas.List.Folds.{list_any_at, list_any_more}
use Rattle.std.specs.FinMap.{get}
use Rattle.host_trait.proofs.Moments.{told_as}
use Rattle.host_trait.proofs.Readings.{nothing_read_ok, read_handed, read_ok, read_then, told_read}
use Rattle.host_trait.specs.World.{Leaves}
use Rattle.switch_names.specs.Names.{Name}
use Rattle.store_collect.specs.Unfinished.{stands_at_one}
use Rattle.store_collect.proofs.unfinished.stands_at_one.Goals as goal

pub loop-place-init : goal.loop-place-init
loop-place-init g c = record { reads = nothing_read_ok tt; none = record { has = λ w is. refl } }

one_more : (places : List Name) (leaves : Leaves) (i : ℕ) (place : Name) → i < length places → place ≡ get_or places i place →
    stands_at_one (take i places) leaves ≡ false → is_some (get leaves place) ≡ false → stands_at_one (take (i + 1) places) leaves ≡ false
one_more places leaves i place inside is before none =
    list_any_more (λ at. is_some (get leaves at)) places i place inside ∙ ap (λ b. b || is_some (get leaves (get_or places i place))) before
    ∙ ap (λ at. is_some (get leaves at)) (sym is) ∙ none

pub loop-place-preserved : goal.loop-place-preserved
loop-place-preserved g c =
    let leaf = told_read c.loop-place.invariant.reads c.in_ok-read.ensures.leaf in
    record {
      reads = read_ok (read_then c.loop-place.invariant.reads c.read.ensures.reads) tt;
      none = record {
        has = λ w is.
            one_more c.args.places.now w.leaves c.loop-place.place-index c.place-item.result c.loop-place-test.true c.place-item.is (c.loop-place.invariant.none.has w is)
            (sym (ap (λ o. is_some o) (leaf.has w is)) ∙ sym c.is_some.ensures ∙ c.if-is_some.false);
      };
    }

pub returns-then-is_some-clause-reads : goal.returns-then-is_some-clause-reads
returns-then-is_some-clause-reads g c = read_ok (read_then c.loop-place.invariant.reads c.read.ensures.reads) true

pub returns-then-is_some-clause-stands : goal.returns-then-is_some-clause-stands
returns-then-is_some-clause-stands g c =
    told_as (told_read c.loop-place.invariant.reads c.in_ok-read.ensures.leaf) _ (λ w world leaf.
    sym (list_any_at (λ at. is_some (get w.leaves at)) c.args.places.now c.loop-place.place-index c.place-item.result c.loop-place-test.true
    (ap (λ at. is_some (get w.leaves at)) (sym c.place-item.is) ∙ sym (ap (λ o. is_some o) leaf) ∙ sym c.is_some.ensures ∙ c.if-is_some.true)))

pub returns-in_err-read-clause-reads : goal.returns-in_err-read-clause-reads
returns-in_err-read-clause-reads g c = read_handed (read_then c.loop-place.invariant.reads c.in_err-read.ensures.reads) _ c.from_residual.ensures.1
