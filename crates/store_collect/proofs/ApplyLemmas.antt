-- Removals of two lists of places, one after the other, once the boot menu is made.
use Rattle.std.proofs.Common.{◌≡◌, ℕ, zero, suc, ◌+◌, ◌≤◌, List, [], ◌∷◌, ◌++◌, length, take, refl, sym, ap, ◌∙◌, arith, length-append}
use Rattle.host_trait.specs.Host.{HostState, Leads, Passes}
use Rattle.host_trait.specs.World.{WorldState, seen, without_leaf}
use Rattle.host_trait.proofs.Moments.{goes_on, leads_then, passes_as}
use Rattle.switch_names.specs.Names.{Name}
use Rattle.tree_put.specs.Sequence.{IsRemoving, without_places}
use Rattle.tree_put.proofs.SequenceLemmas.{seen_without_places}
use Rattle.boot_entries.specs.Steps.{IsBootMoment, IsBootSet, with_menu}
use Rattle.store_collect.specs.declared.collection.Collection.{Collection}
use Rattle.store_collect.specs.Steps.{IsCollectedBy, IsCollecting, IsDropping, removals}

pub without_joined : (one other : List Name) (w : WorldState) → without_places (one ++ other) w ≡ without_places other (without_places one w)
without_joined [] other w = refl
without_joined (at ∷ one) other w = without_joined one other (without_leaf at w)

pub take_first : (k : ℕ) (one other : List Name) → k ≤ length one → take k (one ++ other) ≡ take k one
take_first zero one other within = refl
take_first (suc k) [] other within = absurd (omega arith)
take_first (suc k) (at ∷ one) other within = ap (λ l. at ∷ l) (take_first k one other (omega arith))

pub take_second : (k : ℕ) (one other : List Name) → take (length one + k) (one ++ other) ≡ one ++ take k other
take_second k [] other = let none : 0 + k ≡ k = omega arith in ap (λ n. take n other) none
take_second k (at ∷ one) other =
    let more : suc (length one) + k ≡ suc (length one + k) = omega arith in
    ap (λ n. take n (at ∷ (one ++ other))) more ∙ ap (λ l. at ∷ l) (take_second k one other)

pub removing_first : (one other : List Name) (w m : WorldState) → IsRemoving one w m → IsRemoving (one ++ other) w m
removing_first one other w m moment = record {
  count = moment.count;
  some = omega (arith, moment.some, length-append one other);
  world = moment.world ∙ ap (λ (l : List Name). without_places l w) (sym (take_first moment.count one other moment.some));
}

pub removing_second : (one other : List Name) (w v m : WorldState) → v ≡ without_places one w → IsRemoving other v m → IsRemoving (one ++ other) w m
removing_second one other w v m before moment = record {
  count = length one + moment.count;
  some = omega (arith, moment.some, length-append one other);
  world = moment.world ∙ ap (without_places (take moment.count other)) before ∙ sym (without_joined one (take moment.count other) w)
      ∙ ap (λ (l : List Name). without_places l w) (sym (take_second moment.count one other));
}

module _ (one other : List Name) {a b : HostState} (first : Passes a b (IsRemoving one)) where
  pub first_removals : Passes a b (IsRemoving (one ++ other))
  first_removals = passes_as first (IsRemoving (one ++ other)) (λ w m is moment. removing_first one other w m moment)

  module _ (led : Leads a b (λ w v. v ≡ without_places one w)) {c : HostState} where
    pub both_removals : Passes b c (IsRemoving other) → Passes a c (IsRemoving (one ++ other))
    both_removals second =
        goes_on first led second (IsRemoving (one ++ other)) (λ w m is moment. removing_first one other w m moment)
        (λ w v m is_w is_v before moment. removing_second one other w v m before moment)

    pub both_led : Leads b c (λ w v. v ≡ without_places other w) → Leads a c (λ w v. v ≡ without_places (one ++ other) w)
    both_led gone = leads_then led gone (λ w v. v ≡ without_places (one ++ other) w) (λ w v u is_w is_v before now. now ∙ ap (without_places other) before ∙ sym (without_joined one other w))

-- ---- after the boot menu

dropping : (collection : Collection) (w v m : WorldState) → IsBootSet collection.texts w v → IsRemoving (removals collection) v m → IsDropping collection w m
dropping collection w v m made moment = record {
  count = moment.count;
  some = moment.some;
  world = ap seen moment.world ∙ seen_without_places (take moment.count (removals collection)) v (with_menu collection.texts w) made;
}

module _ (collection : Collection) {a b : HostState} (first : Passes a b (IsBootMoment collection.texts)) where
  pub first_way : Passes a b (IsCollecting collection)
  first_way = passes_as first (IsCollecting collection) (λ w m is moment. IsCollecting.Listing moment)

  module _ (led : Leads a b (IsBootSet collection.texts)) {c : HostState} where
    pub second_way : Passes b c (IsRemoving (removals collection)) → Passes a c (IsCollecting collection)
    second_way second =
        goes_on first_way led second (IsCollecting collection) (λ w m is moment. moment) (λ w v m is_w is_v made moment. IsCollecting.Dropping (dropping collection w v m made moment))

    pub all_led : Leads b c (λ w v. v ≡ without_places (removals collection) w) → Leads a c (IsCollectedBy collection)
    all_led gone = leads_then led gone (IsCollectedBy collection) (λ w v u is_w is_v made now. ap seen now ∙ seen_without_places (removals collection) v (with_menu collection.texts w) made)
