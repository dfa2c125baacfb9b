-- Rows that are sorted by id and name.
use Rattle.std.proofs.Common.{◌≡◌, ℕ, ◌+◌, ◌<◌, ◌&&◌, ◌||◌, Bool, true, false, not, cond, List, [], ◌∷◌, length, get_or, map, Option, None, Some, zero, suc, refl, sym, ap, subst, ◌∙◌, arith}
use Rattle.std.specs.Cmp.{IsTotalOrder, nat_cmp_total, on_total, then_total}
use Rattle.std.specs.Cmp.Lexicographic.{nat_list_cmp_total}
use Rattle.std.specs.List.{AllByRecursion, Contains, IsDistinct, find, list_all, list_any}
use Rattle.std.specs.List.Sorted.{IsPermutation, IsSortedBy, IsStrictlySortedBy}
use Rattle.std.specs.Ordering.{is_eq, is_lt, ordering_reverse, ordering_then, nat_cmp}
use Rattle.std.specs.Cmp.Lexicographic.{slice_cmp}
use Rattle.std.specs.declared.cmp.Ordering.{Ordering}
use Rattle.std.specs.declared.cmp.Ordering.TheVariants.{Less, Equal, Greater}
use Rattle.std.proofs.lemmas.Bool.{and_parts, and_from, or_parts, or_from, false≢true, not-true}
use Rattle.std.proofs.lemmas.List.{get_or-map, length-map}
use Rattle.std.proofs.lemmas.List.Folds.{list_any_at}
use Rattle.std.proofs.lemmas.List.Sorted.{Contains-permutation, IsPermutation-map, IsPermutation-sym, list_any-IsPermutation}
use Rattle.std.proofs.lemmas.Map.Keys.{IsDistinct-IsPermutation, apart_from_distinct, sorted_from_all_adjacent}
use Rattle.switch_names.proofs.Names.{name_turned}
use Rattle.switch_names.specs.Names.{Name, has, is_name}
use Rattle.account_text.specs.Order.{by_id, row_named, IsInOrder}
use Rattle.account_text.specs.Table.{are_distinct, IsSound}
use Rattle.account_text.proofs.FirstLemmas.{alike, any_map}

pub by_id_total : IsTotalOrder by_id
by_id_total = then_total (on_total (λ (a : ℕ × Name). a.0) nat_cmp_total) (on_total (λ (a : ℕ × Name). a.1) nat_list_cmp_total)

-- ---- distinct names

apart : (name : Name) (names : List Name) → has names name ≡ false → AllByRecursion (λ other. is_name name other ≡ false) names
apart name [] none = tt
apart name (other ∷ names) none = let parts = or_parts (is_name name other) (has names name) none in (parts.0, apart name names parts.1)

none_same : (name : Name) (names : List Name) → AllByRecursion (λ other. is_name name other ≡ false) names → has names name ≡ false
none_same name [] all = refl
none_same name (other ∷ names) all = or_from _ _ all.0 (none_same name names all.1)

pub distinct_to : (names : List Name) → are_distinct names ≡ true → IsDistinct is_name names
unfolding IsDistinct
distinct_to [] is = tt
distinct_to (name ∷ names) is =
    let parts = and_parts (not (has names name)) (are_distinct names) is in
    (apart name names (not-true _ parts.0), distinct_to names parts.1)

pub distinct_from : (names : List Name) → IsDistinct is_name names → are_distinct names ≡ true
unfolding IsDistinct
distinct_from [] is = refl
distinct_from (name ∷ names) is = and_from _ _ (ap not (none_same name names is.0)) (distinct_from names is.1)

pub distinct_moved : (names moved : List Name) → IsPermutation names moved → are_distinct names ≡ true → are_distinct moved ≡ true
distinct_moved names moved p is = distinct_from moved (IsDistinct-IsPermutation is_name name_turned names moved p (distinct_to names is))

-- ---- every test

all_is : {X : Type 0} (p : X → Bool) (xs : List X) → list_all p xs ≡ not (list_any (λ x. not (p x)) xs)
all_is p [] = refl
all_is {X} p (x ∷ xs) = by (p x) (all_is p xs)
  where
    by : (b : Bool) → list_all p xs ≡ not (list_any (λ y. not (p y)) xs) → (b && list_all p xs) ≡ not (not b || list_any (λ y. not (p y)) xs)
    by true is = is
    by false is = refl

pub all_moved : {X : Type 0} (p : X → Bool) (xs ys : List X) → IsPermutation xs ys → list_all p xs ≡ list_all p ys
all_moved p xs ys moved = all_is p xs ∙ ap not (list_any-IsPermutation (λ x. not (p x)) xs ys moved) ∙ sym (all_is p ys)

-- ---- the row of a name

found : {X : Type 0} (p : X → Bool) (xs : List X) (x : X) → find p xs ≡ Some x → Contains xs x × (p x ≡ true)
found p [] x is = absurd cc
found {X} p (y ∷ ys) x is = by (p y) refl is (λ same. found p ys x same)
  where
    by : (b : Bool) → p y ≡ b → cond b (Some y) (find p ys) ≡ Some x → (find p ys ≡ Some x → Contains ys x × (p x ≡ true)) → Contains (y ∷ ys) x × (p x ≡ true)
    by true is_b same later = let first : y ≡ x = cc in ((0, omega arith, first), ap p (sym first) ∙ is_b)
    by false is_b same later = let rest = later same in ((suc rest.0.0, (let within : rest.0.0 < length ys = rest.0.1 in omega arith), rest.0.2), rest.1)

module _ {Row : Type 0} (name_of : Row → Name) (name : Name) where
  abbrev named : Row → Bool
  named row = is_name name (name_of row)

  only : (rows : List Row) (row : Row) → are_distinct (map name_of rows) ≡ true → Contains rows row → named row ≡ true → find named rows ≡ Some row
  only [] row distinct has_row is = absurd (let within = has_row.1 in omega arith)
  only (first ∷ rows) row distinct has_row is =
      let parts = and_parts (not (has (map name_of rows) (name_of first))) (are_distinct (map name_of rows)) distinct in
      place has_row.0 has_row.1 has_row.2 (not-true _ parts.0) (λ there. only rows row parts.1 there is)
    where
      place : (k : ℕ) → k < length (first ∷ rows) → get_or (first ∷ rows) k row ≡ row → has (map name_of rows) (name_of first) ≡ false → (Contains rows row → find named rows ≡ Some row)
          → cond (named first) (Some first) (find named rows) ≡ Some row
      place zero within same other rest = ap (λ b. cond b (Some first) (find named rows)) (ap named same ∙ is) ∙ ap Some same
      place (suc k) within same other rest = by (named first) refl
        where
          by : (b : Bool) → named first ≡ b → cond b (Some first) (find named rows) ≡ Some row
          by true e =
              let twins = sym (alike name (name_of first) (name_of row) e) ∙ is in
              let there = list_any_at (λ r. is_name (name_of first) (name_of r)) rows k row (omega arith) (ap (λ r. is_name (name_of first) (name_of r)) same ∙ twins) in
              absurd (false≢true (sym other ∙ any_map (is_name (name_of first)) name_of rows ∙ there))
          by false e = rest (k, omega arith, same)

  pub same_row : (rows ordered : List Row) → IsPermutation rows ordered → are_distinct (map name_of rows) ≡ true → row_named name_of ordered name ≡ row_named name_of rows name
  same_row rows ordered moved distinct = by (find named ordered) refl (find named rows) refl
    where
      by : (o : Option Row) → find named ordered ≡ o → (q : Option Row) → find named rows ≡ q → find named ordered ≡ find named rows
      by (Some row) is q was =
          let here = found named ordered row is in
          is ∙ sym (only rows row distinct (Contains-permutation ordered rows row (IsPermutation-sym rows ordered moved) here.0) here.1)
      by None is (Some row) was =
          let here = found named rows row was in
          let again = only ordered row (distinct_moved (map name_of rows) (map name_of ordered) (IsPermutation-map name_of rows ordered moved) distinct) (Contains-permutation rows ordered row moved here.0) here.1 in
          absurd (let none = is in cc)
      by None is None was = is ∙ sym was

-- ---- strictly sorted

less_next : (a b : ℕ × Name) → is_lt (by_id b a) ≡ false → is_name a.1 b.1 ≡ false → by_id a b ≡ Less
less_next a b not_less other = turned (by_id b a) refl not_less
  where
    turned : (o : Ordering) → by_id b a ≡ o → is_lt o ≡ false → by_id a b ≡ Less
    turned Less is no_less = absurd cc
    turned Greater is no_less = by_id_total.antisymm a b ∙ ap ordering_reverse is
    turned Equal is no_less = absurd (false≢true (sym other ∙ same_name (nat_cmp a.0 b.0) (by_id_total.antisymm a b ∙ ap ordering_reverse is)))
      where
        same_name : (o : Ordering) → ordering_then o (slice_cmp nat_cmp a.1 b.1) ≡ Equal → is_name a.1 b.1 ≡ true
        same_name Less e = absurd cc
        same_name Equal e = ap is_eq e
        same_name Greater e = absurd cc

none_sorted : {Row : Type 0} (key_of : Row → ℕ × Name) → IsStrictlySortedBy by_id (map key_of [])
unfolding IsStrictlySortedBy
none_sorted key_of = tt

module _ {Row : Type 0} (key_of : Row → ℕ × Name) (rows ordered : List Row) where
  abbrev before : Row → Row → Bool
  before row other = is_lt (by_id (key_of row) (key_of other))

  abbrev name_of : Row → Name
  name_of row = (key_of row).1

  sorted_now : (first : Row) → IsSortedBy before ordered → are_distinct (map name_of ordered) ≡ true → IsStrictlySortedBy by_id (map key_of ordered)
  sorted_now first sorted distinct =
      sorted_from_all_adjacent by_id_total (map key_of ordered) (key_of first) (λ k within.
      let len = length-map ordered key_of in
      let at = get_or-map key_of ordered k first (key_of first) (omega arith) in
      let next = get_or-map key_of ordered (k + 1) first (key_of first) (omega arith) in
      let names = length-map ordered name_of in
      let apart = apart_from_distinct is_name (map name_of ordered) k (k + 1) (name_of first) (distinct_to (map name_of ordered) distinct) (omega arith) (omega arith) in
      let name_at = get_or-map name_of ordered k first (name_of first) (omega arith) in
      let name_next = get_or-map name_of ordered (k + 1) first (name_of first) (omega arith) in
      ap (λ a. by_id a (get_or (map key_of ordered) (k + 1) (key_of first))) at
      ∙ ap (λ b. by_id (key_of (get_or ordered k first)) b) next
      ∙ less_next (key_of (get_or ordered k first)) (key_of (get_or ordered (k + 1) first)) (sorted k first (omega arith) (omega arith))
      (ap (λ n. is_name n (name_of (get_or ordered (k + 1) first))) (sym name_at) ∙ ap (λ n. is_name (get_or (map name_of ordered) k (name_of first)) n) (sym name_next) ∙ apart))

  strictly : IsSortedBy before ordered → are_distinct (map name_of ordered) ≡ true → IsStrictlySortedBy by_id (map key_of ordered)
  strictly sorted distinct = by ordered refl
    where
      by : (rs : List Row) → ordered ≡ rs → IsStrictlySortedBy by_id (map key_of ordered)
      by [] is = subst (λ (rs : List Row). IsStrictlySortedBy by_id (map key_of rs)) (sym is) (none_sorted key_of)
      by (first ∷ rs) is = sorted_now first sorted distinct

  pub in_order : IsPermutation rows ordered → IsSortedBy before ordered → are_distinct (map name_of rows) ≡ true → IsInOrder key_of rows ordered
  in_order moved sorted distinct = record {
    moved = moved;
    sorted = strictly sorted (distinct_moved (map name_of rows) (map name_of ordered) (IsPermutation-map name_of rows ordered moved) distinct);
    named = λ name. same_row name_of name rows ordered moved distinct;
  }

  pub sound_moved : (is_sound : Row → Bool) → IsPermutation rows ordered → IsSound is_sound name_of rows → IsSound is_sound name_of ordered
  sound_moved is_sound moved is = record {
    each = sym (all_moved is_sound rows ordered moved) ∙ is.each;
    names = distinct_moved (map name_of rows) (map name_of ordered) (IsPermutation-map name_of rows ordered moved) is.names;
  }
