-- What a cut in a call leaves is a moment of the call.
use Rattle.std.proofs.Common.{◌≡◌, [], ◌==◌, ℕ, if◌then◌else◌, Result, Ok, Err, OnOk, refl, sym, ap, ◌∙◌, inl, inr, ⊎_elim, arith, rules}
use Rattle.std.specs.FinMap.{insert, remove, gets}
use Rattle.host_memory.proofs.Histories.{unchanged, unchanged_beside}
use Rattle.host_memory.specs.declared.history.History.{History}
use Rattle.host_memory.specs.History.{GoesOn, GoesOnBeside, Makes, Cuts}
use Rattle.host_trait.proofs.Moments.{passes_as}
use Rattle.host_trait.proofs.Places.{alike}
use Rattle.host_trait.specs.Change.{Change, Stage, IsMoment}
use Rattle.host_trait.specs.declared.leaf.LeafKind.{LeafKind}
use Rattle.host_trait.specs.World.{Leaves, WorldState, seen, stage}

-- a case is the one whose number it is
pub first_of : {X : Type 0} (n : ℕ) (a b : X) → n ≡ 0 → a ≡ (if n == 0 then a else b)
first_of n a b is = sym (ap (λ k. if k == 0 then a else b) is)

-- a cut before a call left the world as it was
pub cut_before : (history : History) (change : Change) (after : WorldState) → history.world ≡ after → Cuts change after history history
cut_before history change after is = record {
  world = is;
  later = omega arith;
  clock = omega arith;
  moments = unchanged history history (IsMoment change) refl refl (inl refl);
  beside = λ tree. unchanged_beside history history (IsMoment change) refl refl (λ w. inl refl);
}

-- and one after it left it made
pub cut_after :
    {T E : Type 0} (old new : History) (change : Change) (world after : WorldState) (result : Result T E) →
    OnOk result (Makes change world old new) → world ≡ after → OnOk result (Cuts change after old new)
cut_after old new change world after (Ok x) makes is =
    let clock = makes.clock in
    record { world = makes.world ∙ is; later = omega arith; clock = omega arith; moments = makes.moments; beside = makes.beside }
cut_after old new change world after (Err e) makes is = tt

unseen : (m : Leaves) (leaf : LeafKind) → remove (insert m stage leaf) stage ≡ remove m stage
unseen m leaf = alike _ _ (λ q. grind (gets, rules))

-- any leaf at the stage is a moment of a call that writes one there
any_leaf : (written leaf : LeafKind) (w m : WorldState) → IsMoment (Stage written) w m → IsMoment (Stage leaf) w m
any_leaf written leaf w m moment =
    ⊎_elim
    (λ before. inl before)
    (λ rest. inr (inr (⊎_elim
    (λ after. ap (λ (x : WorldState). seen x) after ∙ ap (λ (n : Leaves). record w { leaves = n; written = [] }) (unseen w.leaves written))
    (λ middle. middle)
    rest)))
    moment

goes_on_with_any : (old new : History) (written leaf : LeafKind) → GoesOn old new (IsMoment (Stage written)) → GoesOn old new (IsMoment (Stage leaf))
goes_on_with_any old new written leaf way = record {
  passes = λ last then_last faults then_faults is_sure then_sure.
      passes_as (way.passes last then_last faults then_faults is_sure then_sure) (IsMoment (Stage leaf)) (λ w m is moment. any_leaf written leaf w m moment);
}

goes_beside_with_any : (old new : History) (written leaf : LeafKind) → GoesOnBeside old new (IsMoment (Stage written)) → GoesOnBeside old new (IsMoment (Stage leaf))
goes_beside_with_any old new written leaf way = record {
  same_manager = way.same_manager;
  passes = λ manager last then_last faults then_faults is_sure then_sure.
      passes_as (way.passes manager last then_last faults then_faults is_sure then_sure) (IsMoment (Stage leaf)) (λ w m is moment. any_leaf written leaf w m moment);
}

-- a cut while the stage is written left another leaf there
pub cut_within :
    {T E : Type 0} (old new : History) (written leaf : LeafKind) (world after : WorldState) (result : Result T E) →
    OnOk result (Makes (Stage written) world old new) → world ≡ after → OnOk result (Cuts (Stage leaf) after old new)
cut_within old new written leaf world after (Ok x) makes is =
    let clock = makes.clock in
    record {
      world = makes.world ∙ is;
      later = omega arith;
      clock = omega arith;
      moments = goes_on_with_any old new written leaf makes.moments;
      beside = λ tree. goes_beside_with_any old new written leaf (makes.beside tt);
    }
cut_within old new written leaf world after (Err e) makes is = tt
