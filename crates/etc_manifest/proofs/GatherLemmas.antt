-- Items that are gathered up to the first fault.
use Rattle.std.proofs.Common.{◌≡◌, ◌+◌, ◌<◌, ℕ, suc, Bool, true, false, cond, List, [], ◌∷◌, ◌++◌, length, get_or, drop, filter, map, Result, Ok, Err, refl, sym, ap, ◌∙◌, append_assoc, arith}
use Rattle.std.proofs.Math.Seq.{drop-cons}
use Rattle.etc_manifest.specs.Manifest.{gathered, prefixed}

module _ {T E : Type 0} where
  prefixed_none : (r : Result (List T) E) → r ≡ prefixed [] r
  prefixed_none (Ok xs) = refl
  prefixed_none (Err e) = refl

  prefixed_twice : (front back : List T) (r : Result (List T) E) → prefixed front (prefixed back r) ≡ prefixed (front ++ back) r
  prefixed_twice front back (Ok xs) = ap (λ ys. Ok ys) (sym (append_assoc front back xs))
  prefixed_twice front back (Err e) = refl

  -- a fault stays one, whatever stands before it
  pub prefixed_fault : (front : List T) (r : Result (List T) E) (e : E) → prefixed front r ≡ Err e → r ≡ Err e
  prefixed_fault front (Ok xs) e is = absurd (cc)
  prefixed_fault front (Err f) e is = is

  pub prefixed_items : (front : List T) (r : Result (List T) E) (all : List T) → prefixed front r ≡ Ok all → (rest : List T) × (r ≡ Ok rest) × (all ≡ front ++ rest)
  prefixed_items front (Ok xs) all is = (xs, refl, cc)
  prefixed_items front (Err f) all is = absurd (cc)

module _ {X T E : Type 0} (f : X → Result T E) where
  pub gathered_ok : (x : X) (xs : List X) (y : T) → f x ≡ Ok y → gathered (map f (x ∷ xs)) ≡ prefixed (y ∷ []) (gathered (map f xs))
  gathered_ok x xs y is = ap (λ (r : Result T E). gathered (r ∷ map f xs)) is

  pub gathered_err : (x : X) (xs : List X) (e : E) → f x ≡ Err e → gathered (map f (x ∷ xs)) ≡ Err e
  gathered_err x xs e is = ap (λ (r : Result T E). gathered (r ∷ map f xs)) is

  -- before the first of them nothing is gathered
  pub gathered_begins : (xs : List X) (ys : List T) → ys ≡ [] → gathered (map f xs) ≡ prefixed ys (gathered (map f (drop 0 xs)))
  gathered_begins xs ys none = prefixed_none (gathered (map f xs)) ∙ ap (λ zs. prefixed zs (gathered (map f xs))) (sym none)

  left_with : (xs : List X) (i : ℕ) (x : X) → i < length xs → x ≡ get_or xs i x → drop i xs ≡ x ∷ drop (i + 1) xs
  left_with xs i x within is =
      let next : suc i ≡ i + 1 = omega arith in
      drop-cons xs i x within ∙ ap (λ y. y ∷ drop (suc i) xs) (sym is) ∙ ap (λ n. x ∷ drop n xs) next

  module _ (p : X → Bool) (xs : List X) (i : ℕ) (x : X) (within : i < length xs) (is : x ≡ get_or xs i x) where
    -- what is left to gather, by whether the next is gathered too
    left_by : (b : Bool) → p x ≡ b → filter p (drop i xs) ≡ cond b (x ∷ filter p (drop (i + 1) xs)) (filter p (drop (i + 1) xs))
    left_by b passes = ap (filter p) (left_with xs i x within is) ∙ ap (λ c. cond c (x ∷ filter p (drop (i + 1) xs)) (filter p (drop (i + 1) xs))) passes

    -- the next is gathered after those before it
    pub gathered_more : (y : T) (before now : List T) → p x ≡ true → now ≡ before ++ y ∷ [] → f x ≡ Ok y →
        gathered (map f (filter p xs)) ≡ prefixed before (gathered (map f (filter p (drop i xs)))) → gathered (map f (filter p xs)) ≡ prefixed now (gathered (map f (filter p (drop (i + 1) xs))))
    gathered_more y before now passes pushed fine so_far =
        so_far
        ∙ ap (λ zs. prefixed before (gathered (map f zs))) (left_by true passes)
        ∙ ap (prefixed before) (gathered_ok x (filter p (drop (i + 1) xs)) y fine)
        ∙ prefixed_twice before (y ∷ []) (gathered (map f (filter p (drop (i + 1) xs))))
        ∙ ap (λ zs. prefixed zs (gathered (map f (filter p (drop (i + 1) xs))))) (sym pushed)

    -- or passed over
    pub gathered_same : (before : List T) → p x ≡ false →
        gathered (map f (filter p xs)) ≡ prefixed before (gathered (map f (filter p (drop i xs)))) → gathered (map f (filter p xs)) ≡ prefixed before (gathered (map f (filter p (drop (i + 1) xs))))
    gathered_same before fails so_far = so_far ∙ ap (λ zs. prefixed before (gathered (map f zs))) (left_by false fails)

    -- or the fault that stops it
    pub gathered_stops : (e : E) (before : List T) → p x ≡ true → f x ≡ Err e →
        gathered (map f (filter p xs)) ≡ prefixed before (gathered (map f (filter p (drop i xs)))) → gathered (map f (filter p xs)) ≡ Err e
    gathered_stops e before passes faulty so_far =
        so_far
        ∙ ap (λ zs. prefixed before (gathered (map f zs))) (left_by true passes)
        ∙ ap (prefixed before) (gathered_err x (filter p (drop (i + 1) xs)) e faulty)
