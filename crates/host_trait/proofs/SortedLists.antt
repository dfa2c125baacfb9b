-- Lists in the order of their items' names, and what they give a name.
use Rattle.std.proofs.Common.{◌≡◌, ℕ, ◌+◌, ◌<◌, true, false, cond, List, [], ◌∷◌, ◌++◌, length, take, drop, map, option_map, Option, None, Some, refl, sym, ap, ◌∙◌, subst, inl, inr, suc, arith}
use Rattle.std.proofs.lemmas.Bool.{both_ways}
use Rattle.std.proofs.lemmas.List.{drop_more, map-append, take-append-drop}
use Rattle.std.proofs.lemmas.Option.{get_or_from_slice_get, slice_get_within, slice_get-map}
use Rattle.std.specs.BTreeMap.{is_at}
use Rattle.std.specs.Cmp.{eq_by_cmp_equiv}
use Rattle.std.specs.FinMap.{from_entries, insert}
use Rattle.std.specs.List.{AllByRecursion, slice_get}
use Rattle.std.specs.List.Sorted.{IsStrictlySortedBy}
use Rattle.std.specs.Map.{lookup, keys_of}
use Rattle.std.specs.Ordering.{eq_by_cmp}
use Rattle.std.specs.declared.cmp.Ordering.TheVariants.{Less}
use Rattle.switch_names.proofs.Lists.{all_join}
use Rattle.host_trait.specs.Bytes.{bytes_cmp}
use Rattle.host_trait.proofs.Orders.{AreAbove, AreBelow, less_other, sorted_below, sorted_insert}
use Rattle.host_trait.proofs.Places.{bytes_total, given, same_or_other}

-- a list round the item at a place
pub split_at : {X : Type 0} (xs : List X) (at : ℕ) (x : X) → slice_get xs at ≡ Some x → xs ≡ take at xs ++ x ∷ drop (suc at) xs
split_at xs at x e =
    let next : at + 1 ≡ suc at = omega arith in
    sym (take-append-drop at xs)
    ∙ ap (λ ys. take at xs ++ ys) (drop_more xs at x (slice_get_within xs at x e) ∙ (λ i. get_or_from_slice_get xs at x x e i ∷ drop (next i) xs))

module _ {X V : Type 0} (name_of : X → List ℕ) (value_of : X → V) where
  -- the items as names with values, and what they give a name
  abbrev pub pairs : List X → List (List ℕ × V)
  pairs xs = map (λ (x : X). (name_of x, value_of x)) xs

  abbrev pub look : List X → List ℕ → Option V
  look xs q = lookup (is_at (bytes_cmp q)) (pairs xs)

  pub keys_are_names : (xs : List X) → keys_of (pairs xs) ≡ map name_of xs
  keys_are_names [] = refl
  keys_are_names (x ∷ xs) = ap (λ rest. name_of x ∷ rest) (keys_are_names xs)

  module _ (x : X) where
    abbrev pub AreOther : List X → Type 0
    AreOther xs = AllByRecursion (λ (other : X). eq_by_cmp bytes_cmp (name_of x) (name_of other) ≡ false) xs

    pub other_below : (xs : List X) → AreBelow (map name_of xs) (name_of x) → AreOther xs
    other_below [] h = tt
    other_below (one ∷ xs) h = (apart, other_below xs h.1)
      where
        apart : eq_by_cmp bytes_cmp (name_of x) (name_of one) ≡ false
        apart = elim (same_or_other (name_of x) (name_of one)) [ inl same ↦ absurd (less_other (name_of one) (name_of x) h.0 (sym same)) | inr other ↦ other ]

    pub other_above : (xs : List X) → AreAbove (map name_of xs) (name_of x) → AreOther xs
    other_above [] h = tt
    other_above (one ∷ xs) h = (apart, other_above xs h.1)
      where
        apart : eq_by_cmp bytes_cmp (name_of x) (name_of one) ≡ false
        apart = elim (same_or_other (name_of x) (name_of one)) [ inl same ↦ absurd (less_other (name_of x) (name_of one) h.0 same) | inr other ↦ other ]

    -- an item among others
    pub look_round : (front back : List X) → AreOther front → (q : List ℕ) →
        look (front ++ x ∷ back) q ≡ cond (is_at (bytes_cmp (name_of x)) q) (Some (value_of x)) (look (front ++ back) q)
    look_round [] back h q = ap (λ b. cond b (Some (value_of x)) (look back q)) ((eq_by_cmp_equiv bytes_total).symm q (name_of x))
    look_round (one ∷ front) back h q =
        ap (cond (is_at (bytes_cmp q) (name_of one)) (Some (value_of one))) (look_round front back h.1 q)
        ∙ elim (is_at (bytes_cmp (name_of x)) q) as (λ b. is_at (bytes_cmp (name_of x)) q ≡ b →
        cond (is_at (bytes_cmp q) (name_of one)) (Some (value_of one)) (cond b (Some (value_of x)) (look (front ++ back) q))
        ≡ cond b (Some (value_of x)) (cond (is_at (bytes_cmp q) (name_of one)) (Some (value_of one)) (look (front ++ back) q))) [
          | true ↦ λ e. ap (λ b. cond b (Some (value_of one)) (Some (value_of x))) (apart e)
          | false ↦ λ e. refl
        ] refl
      where
        apart : is_at (bytes_cmp (name_of x)) q ≡ true → is_at (bytes_cmp q) (name_of one) ≡ false
        apart e = elim (same_or_other (name_of x) q) [
          | inl same ↦ subst (λ k. eq_by_cmp bytes_cmp k (name_of one) ≡ false) same h.0
          | inr other ↦ absurd (both_ways _ other e)
        ]

    pub look_others : (xs : List X) → AreOther xs → look xs (name_of x) ≡ None
    look_others [] h = refl
    look_others (one ∷ xs) h = ap (λ b. cond b (Some (value_of one)) (look xs (name_of x))) h.0 ∙ look_others xs h.1

    pub look_none : (xs : List X) → AreOther xs → (q : List ℕ) → is_at (bytes_cmp (name_of x)) q ≡ true → look xs q ≡ None
    look_none xs h q e = elim (same_or_other (name_of x) q) [
      | inl same ↦ subst (λ k. look xs k ≡ None) same (look_others xs h)
      | inr other ↦ absurd (both_ways _ other e)
    ]

    -- what stands before an item of a list in order has other names
    pub around : (front back : List X) → IsStrictlySortedBy bytes_cmp (map name_of (front ++ x ∷ back)) → AreOther front
    around front back sorted = other_below front (sorted_below (map name_of front) (name_of x) (map name_of back) (subst (IsStrictlySortedBy bytes_cmp) (map-append name_of front (x ∷ back)) sorted))

    -- an item is put where its name isn't yet
    pub put_given : (front back : List X) → AreBelow (map name_of front) (name_of x) →
        from_entries {R = bytes_cmp} (pairs (front ++ x ∷ back)) ≡ insert (from_entries (pairs (front ++ back))) (name_of x) (value_of x)
    put_given front back below = given (pairs (front ++ back)) (pairs (front ++ x ∷ back)) (name_of x) (value_of x) (look_round front back (other_below front below))

    pub put_sorted : (front back : List X) → IsStrictlySortedBy bytes_cmp (map name_of (front ++ back)) → AreBelow (map name_of front) (name_of x) → AreAbove (map name_of back) (name_of x) →
        IsStrictlySortedBy bytes_cmp (map name_of (front ++ x ∷ back))
    put_sorted front back sorted below above =
        subst (IsStrictlySortedBy bytes_cmp) (sym (map-append name_of front (x ∷ back)))
        (sorted_insert (map name_of front) (name_of x) (map name_of back) (subst (IsStrictlySortedBy bytes_cmp) (map-append name_of front back) sorted) below above)

  -- ---- by places

  pub above_drop : (xs : List X) (name : List ℕ) → AllByRecursion (λ (other : X). bytes_cmp name (name_of other) ≡ Less) xs → AreAbove (map name_of xs) name
  above_drop [] name h = tt
  above_drop (x ∷ xs) name h = (h.0, above_drop xs name h.1)

  pub below_take : (xs : List X) (name : List ℕ) → AllByRecursion (λ (other : X). bytes_cmp (name_of other) name ≡ Less) xs → AreBelow (map name_of xs) name
  below_take [] name h = tt
  below_take (x ∷ xs) name h = (h.0, below_take xs name h.1)

  option_name : (o : Option X) (name : List ℕ) → option_map name_of o ≡ Some name → (x : X) × (o ≡ Some x) × (name_of x ≡ name)
  option_name None name is = absurd (let none : None ≡ Some name = is in cc)
  option_name (Some x) name is = (x, refl, let e : name_of x ≡ name = cc in e)

  -- the item at the place where a name was found
  pub item_at : (xs : List X) (at : ℕ) (name : List ℕ) → slice_get (map name_of xs) at ≡ Some name → (x : X) × (slice_get xs at ≡ Some x) × (name_of x ≡ name)
  item_at xs at name is = option_name (slice_get xs at) name (sym (slice_get-map name_of xs at) ∙ is)

  -- the place where a name was found is within the list
  pub place_within : (xs : List X) (at : ℕ) (name : List ℕ) → slice_get (map name_of xs) at ≡ Some name → at < length xs
  place_within xs at name is = let one = item_at xs at name is in slice_get_within xs at one.0 one.1

  -- what a list in order gives the name of an item
  pub looked_at : (xs : List X) (at : ℕ) (x : X) (name : List ℕ) → IsStrictlySortedBy bytes_cmp (map name_of xs) → slice_get xs at ≡ Some x → name_of x ≡ name → look xs name ≡ Some (value_of x)
  looked_at xs at x name sorted there is =
      let split = split_at xs at x there in
      let front = take at xs in
      let back = drop (suc at) xs in
      let apart = around x front back (subst (λ (l : List X). IsStrictlySortedBy bytes_cmp (map name_of l)) split sorted) in
      ap (λ l. look l name) split ∙ look_round x front back apart name
      ∙ ap (λ b. cond b (Some (value_of x)) (look (front ++ back) name)) (subst (λ u. is_at (bytes_cmp (name_of x)) u ≡ true) is ((eq_by_cmp_equiv bytes_total).refl (name_of x)))

  -- a name that would stand at a place has nothing
  pub nothing_at : (xs : List X) (at : ℕ) (x : X) → AreBelow (map name_of (take at xs)) (name_of x) → AreAbove (map name_of (drop at xs)) (name_of x) → look xs (name_of x) ≡ None
  nothing_at xs at x below above =
      look_others x xs (subst (λ (l : List X). AreOther x l) (take-append-drop at xs) (all_join _ _ _ (other_below x (take at xs) below) (other_above x (drop at xs) above)))
