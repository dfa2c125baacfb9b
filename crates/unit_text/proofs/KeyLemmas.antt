-- The order of keys, and which keys are the same.
use Rattle.std.proofs.Common.{◌≡◌, ℕ, ◌+◌, ◌<◌, ◌≤◌, Bool, true, false, ◌||◌, List, [], ◌∷◌, ◌++◌, length, get_or, take, drop, refl, sym, ap, ◌∙◌, subst, zero, suc, arith}
use Rattle.std.specs.Cmp.{IsTotalOrder}
use Rattle.std.specs.Cmp.Lexicographic.{bytes_decides}
use Rattle.std.specs.List.{AllByRecursion}
use Rattle.std.specs.List.Sorted.{IsStrictlySortedBy, IsNonDecreasingBy}
use Rattle.std.specs.Ordering.{is_lt, ordering_index, ordering_reverse}
use Rattle.std.specs.declared.cmp.Ordering.{Ordering}
use Rattle.std.specs.declared.cmp.Ordering.TheVariants.{Less, Equal, Greater}
use Rattle.std.proofs.lemmas.Bool.{and_parts, and_from, true≢false}
use Rattle.std.proofs.lemmas.Cmp.{on_total, then_total, nat_list_cmp_total, tied_itself}
use Rattle.std.proofs.lemmas.List.Sorted.{searchable_from_sorted}
use Rattle.std.proofs.lemmas.Map.Keys.{Less-from_sorted}
use Rattle.std.proofs.lemmas.Map.Lookups.{CmpEqualImpliesEq, exact_bytes, exact_pairs}
use Rattle.unit_text.specs.declared.unit_key.UnitKey.{UnitKey}
use Rattle.unit_text.specs.UnitKey.{key_cmp, is_same_key, has_key}
use Rattle.switch_names.proofs.Lists.{all_before, all_from}

pub key_total : IsTotalOrder key_cmp
key_total = then_total (on_total (λ (k : UnitKey). k.section) nat_list_cmp_total) (on_total (λ (k : UnitKey). k.key) nat_list_cmp_total)

-- keys that compare alike are one
pub exact_keys : CmpEqualImpliesEq key_cmp
exact_keys a b e =
    ap (λ (p : List ℕ × List ℕ). record { section = p.0; key = p.1 }) (exact_pairs _ _ exact_bytes exact_bytes (a.section, a.key) (b.section, b.key) e)

pub same_key : (a b : UnitKey) → is_same_key a b ≡ true → a ≡ b
same_key a b e =
    let parts = and_parts _ _ e in
    let section = (bytes_decides a.section b.section).0 parts.0 in
    let key = (bytes_decides a.key b.key).0 parts.1 in
    λ i. record { section = section i; key = key i }

pub same_self : (a : UnitKey) → is_same_key a a ≡ true
same_self a = and_from _ _ ((bytes_decides a.section a.section).1 refl) ((bytes_decides a.key a.key).1 refl)

pub other_key : (a b : UnitKey) → (a ≡ b → ⊥) → is_same_key a b ≡ false
other_key a b h = by (is_same_key a b) refl
  where
    by : (t : Bool) → is_same_key a b ≡ t → is_same_key a b ≡ false
    by true e = absurd (h (same_key a b e))
    by false e = e

not_itself : (a b : UnitKey) → key_cmp a b ≡ Less → a ≡ b → ⊥
not_itself a b less e = let tied = tied_itself key_total b in let same = ap (λ k. key_cmp k b) e in cc

pub less_other : (a b : UnitKey) → key_cmp a b ≡ Less → is_same_key a b ≡ false
less_other a b less = other_key a b (not_itself a b less)

pub greater_other : (a b : UnitKey) → key_cmp b a ≡ Less → is_same_key a b ≡ false
greater_other a b less = other_key a b (λ e. not_itself b a less (sym e))

-- ---- keys below and above a key

abbrev pub AreBelow : List UnitKey → UnitKey → Type 0
AreBelow keys key = AllByRecursion (λ other. key_cmp other key ≡ Less) keys

abbrev pub AreAbove : List UnitKey → UnitKey → Type 0
AreAbove keys key = AllByRecursion (λ other. key_cmp key other ≡ Less) keys

abbrev pub AreOther : List UnitKey → UnitKey → Type 0
AreOther keys key = AllByRecursion (λ other. is_same_key other key ≡ false) keys

pub below_other : (keys : List UnitKey) (key : UnitKey) → AreBelow keys key → AreOther keys key
below_other [] key h = tt
below_other (k ∷ keys) key h = (less_other k key h.0, below_other keys key h.1)

pub above_other : (keys : List UnitKey) (key : UnitKey) → AreAbove keys key → AreOther keys key
above_other [] key h = tt
above_other (k ∷ keys) key h = (greater_other k key h.0, above_other keys key h.1)

pub other_lacks : (keys : List UnitKey) (key : UnitKey) → AreOther keys key → has_key keys key ≡ false
other_lacks [] key h = refl
other_lacks (k ∷ keys) key h =
    let other : is_same_key key k ≡ false = other_key key k (λ e. true≢false (sym (ap (λ x. is_same_key k x) e ∙ same_self k) ∙ h.0)) in
    ap (λ t. t || has_key keys key) other ∙ other_lacks keys key h.1

module _ where
  all_below : (k key : UnitKey) (keys : List UnitKey) → key_cmp k key ≡ Less → AreAbove keys key → AreAbove keys k
  all_below k key [] less h = tt
  all_below k key (x ∷ keys) less h = (key_total.trans k key x less h.0, all_below k key keys less h.1)

  all_push : (k key : UnitKey) (front back : List UnitKey) → AreAbove (front ++ back) k → key_cmp k key ≡ Less → AreAbove (front ++ key ∷ back) k
  all_push k key [] back h less = (less, h)
  all_push k key (x ∷ front) back h less = (h.0, all_push k key front back h.1 less)

  all_drop : (k key : UnitKey) (front back : List UnitKey) → AreAbove (front ++ key ∷ back) k → AreAbove (front ++ back) k
  all_drop k key [] back h = h.1
  all_drop k key (x ∷ front) back h = (h.0, all_drop k key front back h.1)

  all_at : (k key : UnitKey) (front back : List UnitKey) → AreAbove (front ++ key ∷ back) k → key_cmp k key ≡ Less
  all_at k key [] back h = h.0
  all_at k key (x ∷ front) back h = all_at k key front back h.1

  pub above_first : (key first : UnitKey) (keys : List UnitKey) → key_cmp key first ≡ Less → IsStrictlySortedBy key_cmp (first ∷ keys) → AreAbove (first ∷ keys) key
  unfolding IsStrictlySortedBy
  above_first key first keys less s = (less, all_below key first keys less s.0)

  has_first : (key : UnitKey) (keys : List UnitKey) → has_key (key ∷ keys) key ≡ true
  has_first key keys = ap (λ t. t || has_key keys key) (same_self key)

  lacks_lower : (key first : UnitKey) (keys : List UnitKey) → key_cmp key first ≡ Less → AreAbove keys first → has_key (first ∷ keys) key ≡ false
  lacks_lower key first keys less h = other_lacks (first ∷ keys) key (above_other (first ∷ keys) key (less, all_below key first keys less h))

  same_first : (x y : UnitKey) (xs ys : List UnitKey) → AreAbove xs x → AreAbove ys y
      → ((key : UnitKey) → has_key (x ∷ xs) key ≡ has_key (y ∷ ys) key) → x ≡ y
  same_first x y xs ys over_x over_y h = by (key_cmp x y) refl
    where
      by : (o : Ordering) → key_cmp x y ≡ o → x ≡ y
      by Less e = absurd (true≢false (sym (has_first x xs) ∙ h x ∙ lacks_lower x y ys e over_y))
      by Equal e = exact_keys x y e
      by Greater e =
          let less : key_cmp y x ≡ Less = key_total.antisymm y x ∙ ap ordering_reverse e in
          absurd (true≢false (sym (has_first y ys) ∙ sym (h y) ∙ lacks_lower y x xs less over_x))

  same_rest : (x : UnitKey) (xs ys : List UnitKey) → AreAbove xs x → AreAbove ys x
      → ((key : UnitKey) → has_key (x ∷ xs) key ≡ has_key (x ∷ ys) key) → (key : UnitKey) → has_key xs key ≡ has_key ys key
  same_rest x xs ys over_x over_y h key = by (is_same_key key x) refl
    where
      lacks : (zs : List UnitKey) → AreAbove zs x → is_same_key key x ≡ true → has_key zs key ≡ false
      lacks zs over e = ap (has_key zs) (same_key key x e) ∙ other_lacks zs x (above_other zs x over)

      by : (t : Bool) → is_same_key key x ≡ t → has_key xs key ≡ has_key ys key
      by true e = lacks xs over_x e ∙ sym (lacks ys over_y e)
      by false e = sym (ap (λ t. t || has_key xs key) e) ∙ h key ∙ ap (λ t. t || has_key ys key) e

-- two lists of the same keys in order are one
pub same_keys : (xs ys : List UnitKey) → IsStrictlySortedBy key_cmp xs → IsStrictlySortedBy key_cmp ys
    → ((key : UnitKey) → has_key xs key ≡ has_key ys key) → xs ≡ ys
unfolding IsStrictlySortedBy
same_keys [] [] s t h = refl
same_keys [] (y ∷ ys) s t h = absurd (true≢false (sym (has_first y ys) ∙ sym (h y)))
same_keys (x ∷ xs) [] s t h = absurd (true≢false (sym (has_first x xs) ∙ h x))
same_keys (x ∷ xs) (y ∷ ys) s t h =
    let first = same_first x y xs ys s.0 t.0 h in
    let over : AreAbove ys x = subst (AreAbove ys) (sym first) t.0 in
    let rest = same_keys xs ys s.1 t.1 (same_rest x xs ys s.0 over (λ key. h key ∙ ap (λ (z : UnitKey). has_key (z ∷ ys) key) (sym first))) in
    λ i. first i ∷ rest i

-- one more key between those below and those above it
pub sorted_insert : (front : List UnitKey) (key : UnitKey) (back : List UnitKey) → IsStrictlySortedBy key_cmp (front ++ back)
    → AreBelow front key → AreAbove back key → IsStrictlySortedBy key_cmp (front ++ key ∷ back)
unfolding IsStrictlySortedBy
sorted_insert [] key back s below above = (above, s)
sorted_insert (k ∷ front) key back s below above = (all_push k key front back s.0 below.0, sorted_insert front key back s.1 below.1 above)

pub sorted_remove : (front : List UnitKey) (key : UnitKey) (back : List UnitKey) → IsStrictlySortedBy key_cmp (front ++ key ∷ back) → IsStrictlySortedBy key_cmp (front ++ back)
unfolding IsStrictlySortedBy
sorted_remove [] key back s = s.1
sorted_remove (k ∷ front) key back s = (all_drop k key front back s.0, sorted_remove front key back s.1)

pub sorted_below : (front : List UnitKey) (key : UnitKey) (back : List UnitKey) → IsStrictlySortedBy key_cmp (front ++ key ∷ back) → AreBelow front key
unfolding IsStrictlySortedBy
sorted_below [] key back s = tt
sorted_below (k ∷ front) key back s = (all_at k key front back s.0, sorted_below front key back s.1)

pub sorted_above : (front : List UnitKey) (key : UnitKey) (back : List UnitKey) → IsStrictlySortedBy key_cmp (front ++ key ∷ back) → AreAbove back key
unfolding IsStrictlySortedBy
sorted_above [] key back s = s.0
sorted_above (k ∷ front) key back s = sorted_above front key back s.1

-- ---- by places

-- a key in order can be searched for
pub searchable : (keys : List UnitKey) (key : UnitKey) → IsStrictlySortedBy key_cmp keys → IsNonDecreasingBy (λ other. ordering_index (key_cmp other key)) keys
searchable keys key s =
    searchable_from_sorted key_total (λ k. k) keys key
    (λ k d low lt. let less = Less-from_sorted key_cmp keys k (k + 1) d s (omega arith) lt in
    ap is_lt (key_total.antisymm (get_or keys (k + 1) d) (get_or keys k d) ∙ ap ordering_reverse less))
