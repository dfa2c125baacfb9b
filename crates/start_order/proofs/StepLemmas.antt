-- How what is free goes on.
use Rattle.std.proofs.Common.{◌≡◌, ◌⊎◌, ◌↔◌, ◌&&◌, not, cond, Bool, true, false, List, [], ◌∷◌, filter, Option, None, Some, is_none, refl, sym, ap, subst, ◌∙◌, inl, inr, ⊎_elim}
use Rattle.std.specs.List.{find, slice_get}
use Rattle.std.proofs.lemmas.Map.Lookups.{btree_set_from_contains}
use Rattle.host_trait.proofs.NameOrder.{has_filter, name_exact}
use Rattle.host_trait.proofs.Places.{bytes_total, bytes_exact}
use Rattle.start_order.specs.declared.edge.Edge.{Edge}
use Rattle.switch_names.specs.Names.{Name, has, is_name}
use Rattle.start_order.specs.Order.{is_before, is_free, waits_for}
use Rattle.std.specs.List.Sorted.{IsStrictlySortedBy}
use Rattle.host_trait.specs.Bytes.{bytes_cmp}
use Rattle.std.proofs.lemmas.List.Kept.{IsStrictlySortedBy-filter}
use Rattle.start_order.proofs.OrderLemmas.{both_from, both_of, found_is, missed, never_both, none_from}

pub none_is : (o : Option Name) → ((name : Name) → o ≡ Some name → ⊥) → is_none o ≡ true
none_is None never = refl
none_is (Some x) never = absurd (never x refl)

module _ (edges : List Edge) (left rest : List Name) (taken unit : Name) (are : (other : Name) → has rest other ≡ (not (is_name other taken) && has left other)) where
  in_left : (other : Name) → has rest other ≡ true → has left other ≡ true
  in_left other there = (both_of (not (is_name other taken)) (has left other) (sym (are other) ∙ there)).1

  stays_free : is_free edges left unit ≡ true → is_free edges rest unit ≡ true
  stays_free free = none_is (waits_for edges rest unit) (λ name waits.
      let found = found_is (λ other. is_before edges other unit) rest name waits in
      never_both (is_before edges name unit) found.0
      (missed (λ other. is_before edges other unit) left name (none_from (waits_for edges left unit) free) (in_left name found.1)))

  by_taken : (b : Bool) (name : Name) → is_name name taken ≡ b → has left name ≡ true → is_before edges name unit ≡ true → is_free edges rest unit ≡ true → is_before edges taken unit ≡ true
  by_taken true name is there before free = subst (λ k. is_before edges k unit ≡ true) (name_exact name taken is) before
  by_taken false name is there before free =
      let left_yet : has rest name ≡ true = are name ∙ both_from (not (is_name name taken)) (has left name) (ap not is) there in
      absurd (never_both (is_before edges name unit) before (missed (λ other. is_before edges other unit) rest name (none_from (waits_for edges rest unit) free) left_yet))

  waited : (o : Option Name) → waits_for edges left unit ≡ o → is_free edges rest unit ≡ true →
      (is_free edges left unit ≡ true) ⊎ ((is_before edges taken unit ≡ true) × (is_free edges rest unit ≡ true))
  waited None is free = inl (ap is_none is)
  waited (Some name) is free =
      let found = found_is (λ other. is_before edges other unit) left name is in
      inr (by_taken (is_name name taken) name refl found.1 found.0 free, free)

  -- once a unit is taken, free is what was free, and what waited for that unit and for none that is left
  pub step : (is_free edges rest unit ≡ true) ↔ ((is_free edges left unit ≡ true) ⊎ ((is_before edges taken unit ≡ true) × (is_free edges rest unit ≡ true)))
  step = (waited (waits_for edges left unit) refl, λ either. ⊎_elim stays_free (λ both. both.1) either)

first_step : (test : Name → Bool) (one : Name) (names : List Name) (b : Bool) → slice_get (filter test names) 0 ≡ find test names →
    slice_get (cond b (one ∷ filter test names) (filter test names)) 0 ≡ cond b (Some one) (find test names)
first_step test one names true rest = refl
first_step test one names false rest = rest

pub first_kept : (test : Name → Bool) (names : List Name) → slice_get (filter test names) 0 ≡ find test names
first_kept test [] = refl
first_kept test (one ∷ names) = first_step test one names (test one) (first_kept test names)

-- the least of a sorted set of what passes a test is the first that passes it
pub least_law : (test : Name → Bool) (left free : List Name) → IsStrictlySortedBy bytes_cmp left → IsStrictlySortedBy bytes_cmp free →
    ((unit : Name) → has free unit ≡ (test unit && has left unit)) → slice_get free 0 ≡ find test left
least_law test left free sorted_left sorted_free are =
    let same : free ≡ filter test left =
    btree_set_from_contains bytes_total (record { keys = free }) (record { keys = filter test left }) sorted_free (IsStrictlySortedBy-filter bytes_cmp test left sorted_left)
    (λ unit. are unit ∙ sym (has_filter test left unit)) bytes_exact in
    ap (λ names. slice_get names 0) same ∙ first_kept test left
