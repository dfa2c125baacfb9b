-- What holds of each item of a list, and of one that is found.
use Rattle.std.proofs.Common.{◌≡◌, ℕ, zero, suc, ◌<◌, ◌≤◌, Bool, true, false, cond, List, [], ◌∷◌, ◌++◌, length, get_or, take, drop, find, Some, refl, sym, subst, arith}
use Rattle.std.specs.List.{AllByRecursion}

module _ {X : Type 0} (P : X → Type 0) where
  pub all_join : (front back : List X) → AllByRecursion P front → AllByRecursion P back → AllByRecursion P (front ++ back)
  all_join [] back f b = b
  all_join (x ∷ front) back f b = (f.0, all_join front back f.1 b)

  pub all_front : (front back : List X) → AllByRecursion P (front ++ back) → AllByRecursion P front
  all_front [] back h = tt
  all_front (x ∷ front) back h = (h.0, all_front front back h.1)

  pub all_back : (front back : List X) → AllByRecursion P (front ++ back) → AllByRecursion P back
  all_back [] back h = h
  all_back (x ∷ front) back h = all_back front back h.1

  -- what holds at each place before one, and from one on
  pub all_before : (xs : List X) (i : ℕ) → i ≤ length xs → ((k : ℕ) (d : X) → k < i → P (get_or xs k d)) → AllByRecursion P (take i xs)
  all_before xs zero within h = tt
  all_before [] (suc i) within h = tt
  all_before (x ∷ xs) (suc i) within h = (h 0 x (omega arith), all_before xs i (omega arith) (λ k d lt. h (suc k) d (omega arith)))

  pub all_from : (xs : List X) (i : ℕ) → ((k : ℕ) (d : X) → i ≤ k → k < length xs → P (get_or xs k d)) → AllByRecursion P (drop i xs)
  all_from [] zero h = tt
  all_from [] (suc i) h = tt
  all_from (x ∷ xs) zero h = (h 0 x (omega arith) (omega arith), all_from xs zero (λ k d low lt. h (suc k) d (omega arith) (omega arith)))
  all_from (x ∷ xs) (suc i) h = all_from xs i (λ k d low lt. h (suc k) d (omega arith) (omega arith))

  -- an item at a place
  pub all_at : (xs : List X) (i : ℕ) (one : X) → i < length xs → one ≡ get_or xs i one → AllByRecursion P xs → P one
  all_at [] i one inside is all = absurd (omega arith)
  all_at (x ∷ xs) zero one inside is all = subst P (sym is) all.0
  all_at (x ∷ xs) (suc i) one inside is all = all_at xs i one (omega arith) is all.1

-- tests that agree find the same
pub find_same : {X : Type 0} (p q : X → Bool) → ((x : X) → p x ≡ q x) → (xs : List X) → find p xs ≡ find q xs
find_same p q same [] = refl
find_same p q same (x ∷ xs) = λ i. cond (same x i) (Some x) (find_same p q same xs i)

-- what is found passes
pub find_passes : {X : Type 0} (p : X → Bool) (xs : List X) (x : X) → find p xs ≡ Some x → p x ≡ true
find_passes p [] x found = absurd cc
find_passes p (y ∷ ys) x found =
    elim (p y) as (λ b. p y ≡ b → cond b (Some y) (find p ys) ≡ Some x → p x ≡ true)
    [ true ↦ λ yes is. let same : y ≡ x = cc in cc | false ↦ λ not is. find_passes p ys x is ] refl found
