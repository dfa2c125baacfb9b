-- Names in order: what an insertion and a removal leave, and how a search ends.
use Rattle.std.proofs.Common.{◌≡◌, ◌≢◌, ℕ, ◌+◌, ◌<◌, ◌≤◌, List, [], ◌∷◌, ◌++◌, length, get_or, take, drop, Result, Ok, Err, Some, IfOk, IfErr, refl, sym, ap, ◌∙◌, zero, suc, map, option_map, arith}
use Rattle.std.specs.List.{AllByRecursion, slice_get}
use Rattle.std.specs.List.Sorted.{IsStrictlySortedBy, IsNonDecreasingBy, IsBinarySearchResult, IsSearchInRange}
use Rattle.std.specs.Ordering.{is_lt, ordering_index, ordering_reverse}
use Rattle.std.specs.declared.cmp.Ordering.TheVariants.{Less}
use Rattle.std.proofs.lemmas.Cmp.{tied_itself}
use Rattle.std.proofs.lemmas.List.Sorted.{searchable_from_sorted}
use Rattle.std.proofs.lemmas.Map.Keys.{Less-from_sorted}
use Rattle.std.proofs.lemmas.List.{length-map}
use Rattle.std.proofs.lemmas.Option.{slice_get-get_or, slice_get-map}
use Rattle.host_trait.specs.Bytes.{bytes_cmp}
use Rattle.host_trait.proofs.Places.{bytes_total, bytes_exact}
use Rattle.switch_names.proofs.Lists.{all_before, all_from}

abbrev pub AreBelow : List (List ℕ) → List ℕ → Type 0
AreBelow names name = AllByRecursion (λ other. bytes_cmp other name ≡ Less) names

abbrev pub AreAbove : List (List ℕ) → List ℕ → Type 0
AreAbove names name = AllByRecursion (λ other. bytes_cmp name other ≡ Less) names

pub less_other : (a b : List ℕ) → bytes_cmp a b ≡ Less → a ≢ b
less_other a b less e = let tied = tied_itself bytes_total b in let same = ap (λ k. bytes_cmp k b) e in cc

pub all_below : (k name : List ℕ) (names : List (List ℕ)) → bytes_cmp k name ≡ Less → AreAbove names name → AreAbove names k
all_below k name [] less h = tt
all_below k name (x ∷ names) less h = (bytes_total.trans k name x less h.0, all_below k name names less h.1)

all_push : (k name : List ℕ) (front back : List (List ℕ)) → AreAbove (front ++ back) k → bytes_cmp k name ≡ Less → AreAbove (front ++ name ∷ back) k
all_push k name [] back h less = (less, h)
all_push k name (x ∷ front) back h less = (h.0, all_push k name front back h.1 less)

all_drop : (k name : List ℕ) (front back : List (List ℕ)) → AreAbove (front ++ name ∷ back) k → AreAbove (front ++ back) k
all_drop k name [] back h = h.1
all_drop k name (x ∷ front) back h = (h.0, all_drop k name front back h.1)

all_at : (k name : List ℕ) (front back : List (List ℕ)) → AreAbove (front ++ name ∷ back) k → bytes_cmp k name ≡ Less
all_at k name [] back h = h.0
all_at k name (x ∷ front) back h = all_at k name front back h.1

-- one more name between those below and those above it
pub sorted_insert : (front : List (List ℕ)) (name : List ℕ) (back : List (List ℕ)) → IsStrictlySortedBy bytes_cmp (front ++ back)
    → AreBelow front name → AreAbove back name → IsStrictlySortedBy bytes_cmp (front ++ name ∷ back)
unfolding IsStrictlySortedBy
sorted_insert [] name back s below above = (above, s)
sorted_insert (k ∷ front) name back s below above = (all_push k name front back s.0 below.0, sorted_insert front name back s.1 below.1 above)

pub sorted_remove : (front : List (List ℕ)) (name : List ℕ) (back : List (List ℕ)) → IsStrictlySortedBy bytes_cmp (front ++ name ∷ back) → IsStrictlySortedBy bytes_cmp (front ++ back)
unfolding IsStrictlySortedBy
sorted_remove [] name back s = s.1
sorted_remove (k ∷ front) name back s = (all_drop k name front back s.0, sorted_remove front name back s.1)

pub sorted_below : (front : List (List ℕ)) (name : List ℕ) (back : List (List ℕ)) → IsStrictlySortedBy bytes_cmp (front ++ name ∷ back) → AreBelow front name
unfolding IsStrictlySortedBy
sorted_below [] name back s = tt
sorted_below (k ∷ front) name back s = (all_at k name front back s.0, sorted_below front name back s.1)

pub sorted_above : (front : List (List ℕ)) (name : List ℕ) (back : List (List ℕ)) → IsStrictlySortedBy bytes_cmp (front ++ name ∷ back) → AreAbove back name
unfolding IsStrictlySortedBy
sorted_above [] name back s = s.0
sorted_above (k ∷ front) name back s = sorted_above front name back s.1

pub none_sorted : IsStrictlySortedBy bytes_cmp []
unfolding IsStrictlySortedBy
none_sorted = tt

get_or_map : {X Y : Type 0} (key : X → Y) (xs : List X) (k : ℕ) (d : X) → get_or (map key xs) k (key d) ≡ key (get_or xs k d)
get_or_map key [] k d = refl
get_or_map key (x ∷ xs) zero d = refl
get_or_map key (x ∷ xs) (suc k) d = get_or_map key xs k d

module _ {X : Type 0} (key : X → List ℕ) (xs : List X) (name : List ℕ) where
  less_at : (i j : ℕ) (d : X) → IsStrictlySortedBy bytes_cmp (map key xs) → i < j → j < length xs → bytes_cmp (key (get_or xs i d)) (key (get_or xs j d)) ≡ Less
  less_at i j d s lt within =
      let len = length-map xs key in
      sym (λ k. bytes_cmp (get_or_map key xs i d k) (get_or_map key xs j d k)) ∙ Less-from_sorted bytes_cmp (map key xs) i j (key d) s lt (omega (arith, len))

  searchable : IsStrictlySortedBy bytes_cmp (map key xs) → IsNonDecreasingBy (λ other. ordering_index (bytes_cmp (key other) name)) xs
  searchable s =
      searchable_from_sorted bytes_total key xs name
      (λ k d low lt. let less = less_at k (k + 1) d s (omega arith) lt in
      ap is_lt (bytes_total.antisymm (key (get_or xs (k + 1) d)) (key (get_or xs k d)) ∙ ap ordering_reverse less))

  -- a search that has found a name
  pub found_name :
      (r : Result ℕ ℕ) → IsSearchInRange r (length xs) → IsBinarySearchResult (λ other. bytes_cmp (key other) name) xs r →
      IfOk r (λ at. slice_get (map key xs) at ≡ Some name)
  found_name (Err at) within h = tt
  found_name (Ok at) within h =
      let there = first_of xs at within in
      slice_get-map key xs at ∙ ap (option_map key) (slice_get-get_or xs at there within) ∙ ap Some (bytes_exact _ _ (h there))
    where
      first_of : (ys : List X) (at : ℕ) → at < length ys → X
      first_of [] at within = absurd (omega arith)
      first_of (y ∷ ys) at within = y

  -- and one that hasn't
  pub missing_name :
      (r : Result ℕ ℕ) → IsStrictlySortedBy bytes_cmp (map key xs) → IsSearchInRange r (length xs) →
      IsBinarySearchResult (λ other. bytes_cmp (key other) name) xs r →
      IfErr r (λ at. (at ≤ length xs) × AllByRecursion (λ other. bytes_cmp (key other) name ≡ Less) (take at xs)
      × AllByRecursion (λ other. bytes_cmp name (key other) ≡ Less) (drop at xs))
  missing_name (Ok at) s within h = tt
  missing_name (Err at) s within h =
      let cut = h (searchable s) in (
        within,
        all_before _ xs at within (λ k d lt. cut.0 k d (omega arith) lt),
        all_from _ xs at (λ k d low lt. bytes_total.antisymm name (key (get_or xs k d)) ∙ ap ordering_reverse (cut.1 k d low lt)),
      )
