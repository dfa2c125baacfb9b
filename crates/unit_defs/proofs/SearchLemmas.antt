-- Searches among units in order.
use Rattle.std.proofs.Common.{◌≡◌, ◌⊎◌, ℕ, zero, suc, ◌+◌, ◌<◌, ◌≤◌, min, cond, List, [], ◌∷◌, ◌++◌, length, get_or, take, drop, map, None, Some, Result, Ok, Err, MatchOption, refl, sym, ap, subst, ◌∙◌, inl, inr, add-one, arith}
use Rattle.std.specs.List.{AllByRecursion, slice_get}
use Rattle.std.specs.List.Sorted.{IsBinarySearchResult, IsNonDecreasingBy, IsSearchInRange, IsStrictlySortedBy}
use Rattle.std.specs.Ordering.{is_lt, nat_cmp, ordering_index, ordering_reverse, ordering_then}
use Rattle.std.specs.Result.{result_ok}
use Rattle.std.specs.declared.cmp.Ordering.{Ordering}
use Rattle.std.specs.declared.cmp.Ordering.TheVariants.{Less, Equal, Greater}
use Rattle.std.proofs.lemmas.List.{get_or_default}
use Rattle.std.proofs.lemmas.List.Sorted.{searchable_from_sorted}
use Rattle.std.proofs.lemmas.Option.{slice_get-get_or}
use Rattle.std.proofs.lemmas.Cmp.{tied_itself}
use Rattle.host_trait.specs.World.{bytes_cmp}
use Rattle.host_trait.proofs.Places.{bytes_exact, bytes_total, same_or_other}
use Rattle.unit_defs.specs.declared.unit.Unit.{Unit}
use Rattle.unit_defs.specs.Defs.{AreSorted, unit_in}
use Rattle.switch_names.proofs.Names.{name_turned}
use Rattle.host_trait.proofs.NameOrder.{less_is_other, name_from, less_not_equal}

then_assoc : (a b c : Ordering) → ordering_then (ordering_then a b) c ≡ ordering_then a (ordering_then b c)
then_assoc Less b c = refl
then_assoc Equal b c = refl
then_assoc Greater b c = refl

-- a name is compared with a front and then with what follows it
pub compared_front : (m : ℕ) (name front rest : List ℕ) → m ≡ min (length name) (length front) →
    bytes_cmp name (front ++ rest) ≡ ordering_then (bytes_cmp (take m name) front) (bytes_cmp (drop m name) rest)
compared_front zero name [] rest is = refl
compared_front (suc m) name [] rest is = absurd (omega arith)
compared_front zero [] (y ∷ front) rest is = refl
compared_front (suc m) [] (y ∷ front) rest is = absurd (omega arith)
compared_front zero (x ∷ name) (y ∷ front) rest is = absurd (omega arith)
compared_front (suc m) (x ∷ name) (y ∷ front) rest is =
    ap (ordering_then (nat_cmp x y)) (compared_front m name front rest (omega arith))
    ∙ sym (then_assoc (nat_cmp x y) (bytes_cmp (take m name) front) (bytes_cmp (drop m name) rest))

above_at : (a : List ℕ) (units : List Unit) (at : ℕ) (d : Unit) → at < length units → AllByRecursion (λ b. bytes_cmp a b ≡ Less) (map (λ (unit : Unit). unit.name) units) → bytes_cmp a (get_or units at d).name ≡ Less
above_at a [] at d within above = absurd (omega arith)
above_at a (unit ∷ units) zero d within above = above.0
above_at a (unit ∷ units) (suc at) d within above = above_at a units at d (omega arith) above.1

-- in order, the unit that is found is the only one of its name
found_at : (units : List Unit) (at : ℕ) (name : List ℕ) → AreSorted units → at < length units → ((d : Unit) → bytes_cmp (get_or units at d).name name ≡ Equal) → unit_in units name ≡ slice_get units at
unfolding IsStrictlySortedBy
found_at [] at name sorted within is = absurd (omega arith)
found_at (unit ∷ units) zero name sorted within is =
    ap (λ b. cond b (Some unit) (unit_in units name)) (name_from name unit.name (sym (bytes_exact unit.name name (is unit))))
found_at (unit ∷ units) (suc at) name sorted within is =
    let same : (get_or units at unit).name ≡ name = bytes_exact (get_or units at unit).name name (is unit) in
    let less : bytes_cmp unit.name name ≡ Less = subst (λ n. bytes_cmp unit.name n ≡ Less) same (above_at unit.name units at unit (omega arith) sorted.0) in
    ap (λ b. cond b (Some unit) (unit_in units name)) (name_turned name unit.name ∙ less_is_other unit.name name less)
    ∙ found_at units at name sorted.1 (omega arith) is

-- in order, a unit is the one of its name
pub stands_in : (units : List Unit) (at : ℕ) (unit : Unit) → AreSorted units → at < length units → unit ≡ get_or units at unit → unit_in units unit.name ≡ Some unit
stands_in units at unit sorted within is =
    found_at units at unit.name sorted within (λ d. ap (λ (u : Unit). bytes_cmp u.name unit.name) (get_or_default units at d unit within ∙ sym is) ∙ tied_itself bytes_total unit.name)
    ∙ slice_get-get_or units at unit within ∙ ap (λ u. Some u) (sym is)

none_at : (units : List Unit) (name : List ℕ) → ((k : ℕ) (d : Unit) → k < length units → bytes_cmp (get_or units k d).name name ≡ Equal → ⊥) → unit_in units name ≡ None
none_at [] name lacks = refl
none_at (unit ∷ units) name lacks = elim (same_or_other name unit.name) [
  | inl same ↦ absurd (lacks 0 unit (omega arith) (ap (λ n. bytes_cmp n name) (sym same) ∙ tied_itself bytes_total name))
  | inr other ↦ ap (λ b. cond b (Some unit) (unit_in units name)) other ∙ none_at units name (λ k d less. lacks (suc k) d (omega arith))
]

rising_at : (units : List Unit) (k : ℕ) (d : Unit) → AreSorted units → suc k < length units → bytes_cmp (get_or units k d).name (get_or units (suc k) d).name ≡ Less
unfolding IsStrictlySortedBy
rising_at [] k d sorted within = absurd (omega arith)
rising_at (unit ∷ units) zero d sorted within = above_at unit.name units 0 d (omega arith) sorted.0
rising_at (unit ∷ units) (suc k) d sorted within = rising_at units k d sorted.1 (omega arith)

searchable : (units : List Unit) (name : List ℕ) → AreSorted units → IsNonDecreasingBy (λ (unit : Unit). ordering_index (bytes_cmp unit.name name)) units
searchable units name sorted =
    searchable_from_sorted bytes_total (λ (unit : Unit). unit.name) units name
    (λ k d low within. ap is_lt (bytes_total.antisymm (get_or units (k + 1) d).name (get_or units k d).name ∙ ap ordering_reverse (next k d within)))
  where
    next : (k : ℕ) (d : Unit) → k + 1 < length units → bytes_cmp (get_or units k d).name (get_or units (k + 1) d).name ≡ Less
    next k d within = subst (λ n. bytes_cmp (get_or units k d).name (get_or units n d).name ≡ Less) (sym (add-one k)) (rising_at units k d sorted (omega arith))

apart : (a b : Ordering) (r : Ordering) → r ≡ a → r ≡ b → a ≡ b
apart a b r first second = sym first ∙ second

not_greater : (r : Ordering) → r ≡ Greater → r ≡ Equal → ⊥
not_greater r greater equal = absurd (cc)

either_side : (k at : ℕ) → (k < at) ⊎ (at ≤ k)
either_side zero zero = inr (omega arith)
either_side zero (suc at) = inl (omega arith)
either_side (suc k) zero = inr (omega arith)
either_side (suc k) (suc at) = elim (either_side k at) [
  | inl less ↦ inl (omega arith)
  | inr more ↦ inr (omega arith)
]

-- what a binary search finds
pub searched : (units : List Unit) (name : List ℕ) (r : Result ℕ ℕ) → AreSorted units → IsSearchInRange r (length units) → IsBinarySearchResult (λ (unit : Unit). bytes_cmp unit.name name) units r →
    MatchOption (result_ok r) (unit_in units name ≡ None) (λ at. (at < length units) × (unit_in units name ≡ slice_get units at))
searched units name (Ok at) sorted within is = (within, found_at units at name sorted within is)
searched units name (Err at) sorted within is =
    let cut = is (searchable units name sorted) in
    none_at units name (λ k d less equal. elim (either_side k at) [
      | inl before ↦ less_not_equal _ (cut.0 k d (omega arith) before) equal
      | inr after ↦ not_greater _ (cut.1 k d after less) equal
    ])
