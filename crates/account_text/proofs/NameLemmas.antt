-- Names that are sorted and differ from the next are distinct.
use Rattle.std.proofs.Common.{◌≡◌, ℕ, ◌+◌, ◌<◌, Bool, true, false, get_or, List, [], ◌∷◌, length, map, Bor, refl, sym, ap, subst, ◌∙◌, arith}
use Rattle.std.specs.Cmp.Lexicographic.{slice_cmp, nat_list_cmp_total}
use Rattle.std.specs.List.{AllAdjacentBelow, IsAllAdjacentAnswer}
use Rattle.std.specs.List.Sorted.{IsPermutation, IsSortedBy, IsStrictlySortedBy}
use Rattle.std.specs.Ordering.{is_eq, is_lt, nat_cmp, ordering_reverse}
use Rattle.std.specs.declared.cmp.Ordering.{Ordering}
use Rattle.std.specs.declared.cmp.Ordering.TheVariants.{Less, Equal, Greater}
use Rattle.std.proofs.lemmas.List.{get_or-map, length-map}
use Rattle.std.proofs.lemmas.List.Sorted.{IsPermutation-map, IsPermutation-sym}
use Rattle.std.proofs.lemmas.Map.Keys.{IsDistinct-from_sorted, apart_from_distinct, sorted_from_all_adjacent}
use Rattle.std.proofs.lemmas.Bool.{false≢true}
use Rattle.switch_names.specs.Names.{Name, is_name}
use Rattle.account_text.specs.Table.{are_distinct}
use Rattle.account_text.proofs.OrderLemmas.{distinct_from, distinct_moved, distinct_to}

less_is : (o : Ordering) → true ≡ is_lt o → o ≡ Less
less_is Less is = refl
less_is Equal is = absurd cc
less_is Greater is = absurd cc

-- of two names neither of which is below the other
level : (a b : Name) → is_lt (slice_cmp nat_cmp a b) ≡ false → is_lt (slice_cmp nat_cmp b a) ≡ false → is_name a b ≡ true
level a b up down = by (slice_cmp nat_cmp a b) refl up
  where
    by : (o : Ordering) → slice_cmp nat_cmp a b ≡ o → is_lt o ≡ false → is_name a b ≡ true
    by Less is not_less = absurd cc
    by Equal is not_less = ap is_eq is
    by Greater is not_less =
        let turned : slice_cmp nat_cmp b a ≡ Less = nat_list_cmp_total.antisymm b a ∙ ap ordering_reverse is in
        absurd (false≢true (sym down ∙ ap is_lt turned))

none_sorted : IsStrictlySortedBy (slice_cmp nat_cmp) []
unfolding IsStrictlySortedBy
none_sorted = tt

module _ {Row : Type 0} (name_of : Row → Name) where
  abbrev name_lent : Bor Row → Name
  name_lent row = name_of row.now

  abbrev pub is_before : Row → Row → Bool
  is_before row next = is_lt (slice_cmp nat_cmp (name_of row) (name_of next))

  rising : (sorted : List (Bor Row)) → AllAdjacentBelow (λ row next. true ≡ is_before row.now next.now) sorted (length sorted) → IsStrictlySortedBy (slice_cmp nat_cmp) (map name_lent sorted)
  rising [] all = none_sorted
  rising (first ∷ rest) all =
      sorted_from_all_adjacent nat_list_cmp_total (map name_lent (first ∷ rest)) (name_lent first) (λ k within.
      let len = length-map (first ∷ rest) name_lent in
      let at = get_or-map name_lent (first ∷ rest) k first (name_lent first) (omega arith) in
      let next = get_or-map name_lent (first ∷ rest) (k + 1) first (name_lent first) (omega arith) in
      ap (λ a. slice_cmp nat_cmp a (get_or (map name_lent (first ∷ rest)) (k + 1) (name_lent first))) at
      ∙ ap (λ b. slice_cmp nat_cmp (name_lent (get_or (first ∷ rest) k first)) b) next
      ∙ less_is _ (all k first (omega arith)))

  lent_names : (lent : List (Bor Row)) → map name_lent lent ≡ map name_of (map (λ row. row.now) lent)
  lent_names [] = refl
  lent_names (row ∷ rows) = ap (λ ns. name_of row.now ∷ ns) (lent_names rows)

  module _ (rows : List Row) (lent sorted : List (Bor Row)) (are : map (λ row. row.now) lent ≡ rows) (moved : IsPermutation lent sorted) where
    names_moved : IsPermutation (map name_of rows) (map name_lent sorted)
    names_moved = subst (λ (names : List Name). IsPermutation names (map name_lent sorted)) (lent_names lent ∙ ap (map name_of) are) (IsPermutation-map name_lent lent sorted moved)

    own : AllAdjacentBelow (λ row next. true ≡ is_before row.now next.now) sorted (length sorted) → true ≡ are_distinct (map name_of rows)
    own all =
        let apart = distinct_from (map name_lent sorted) (IsDistinct-from_sorted (slice_cmp nat_cmp) (map name_lent sorted) (rising sorted all)) in
        sym (distinct_moved (map name_lent sorted) (map name_of rows) (IsPermutation-sym (map name_of rows) (map name_lent sorted) names_moved) apart)

    twins : (k : ℕ) (d : Bor Row) → k + 1 < length sorted → is_name (name_lent (get_or sorted k d)) (name_lent (get_or sorted (k + 1) d)) ≡ true → false ≡ are_distinct (map name_of rows)
    twins k d within same = by (are_distinct (map name_of rows)) refl
      where
        by : (b : Bool) → are_distinct (map name_of rows) ≡ b → false ≡ are_distinct (map name_of rows)
        by false is = sym is
        by true is =
            let distinct = distinct_to (map name_lent sorted) (distinct_moved (map name_of rows) (map name_lent sorted) names_moved is) in
            let len = length-map sorted name_lent in
            let apart = apart_from_distinct is_name (map name_lent sorted) k (k + 1) (name_lent d) distinct (omega arith) (omega arith) in
            let at = get_or-map name_lent sorted k d (name_lent d) (omega arith) in
            let next = get_or-map name_lent sorted (k + 1) d (name_lent d) (omega arith) in
            absurd (false≢true (sym (ap (λ n. is_name n (name_lent (get_or sorted (k + 1) d))) (sym at) ∙ ap (λ n. is_name (get_or (map name_lent sorted) k (name_lent d)) n) (sym next) ∙ apart) ∙ same))

    -- names that are sorted are distinct where each is below the next
    pub own_names : IsSortedBy (λ row next. is_before row.now next.now) sorted → (told : Bool) → IsAllAdjacentAnswer (λ row next b. b ≡ is_before row.now next.now) sorted told → told ≡ are_distinct (map name_of rows)
    own_names rises true all = own all
    own_names rises false some = by sorted refl
      where
        by : (all : List (Bor Row)) → sorted ≡ all → false ≡ are_distinct (map name_of rows)
        by [] is = let len = ap length is in absurd (let within = some.1 in omega arith)
        by (d ∷ rest) is =
            twins some.0 d some.1
            (level (name_lent (get_or sorted some.0 d)) (name_lent (get_or sorted (some.0 + 1) d)) (sym (some.2 d)) (rises some.0 d (omega arith) (let within = some.1 in omega arith)))
