-- Of rows with one name the first stands.
use Rattle.std.proofs.Common.{◌≡◌, ◌&&◌, ◌||◌, Bool, true, false, cond, not, List, [], ◌∷◌, ◌++◌, map, Some, refl, sym, ap, ◌∙◌}
use Rattle.std.specs.Cmp.{eq_by_cmp_equiv}
use Rattle.std.specs.Cmp.Lexicographic.{nat_list_cmp_total}
use Rattle.std.specs.List.{filter, list_any, list_all}
use Rattle.std.proofs.lemmas.Bool.{and_parts, and_from, or_parts, not-true}
use Rattle.std.proofs.lemmas.List.{append-nil, map-append}
use Rattle.std.proofs.lemmas.List.Elements.{filter-append}
use Rattle.std.proofs.lemmas.List.Folds.{list_any-append}
use Rattle.std.proofs.lemmas.Map.Views.{any-filter_same}
use Rattle.std.proofs.Math.Bool.{or-false}
use Rattle.switch_names.proofs.Names.{name_turned}
use Rattle.switch_names.specs.Names.{Name, has, is_name}
use Rattle.account_text.specs.Table.{firsts, are_distinct}
use Rattle.account_text.specs.Reading.{with_row}

-- ---- tests over lists

pub any_map : {X Y : Type 0} (p : Y → Bool) (f : X → Y) (xs : List X) → list_any p (map f xs) ≡ list_any (λ x. p (f x)) xs
any_map p f [] = refl
any_map p f (x ∷ xs) = ap (λ b. p (f x) || b) (any_map p f xs)

pub all_filter : {X : Type 0} (p q : X → Bool) (xs : List X) → list_all q xs ≡ true → list_all q (filter p xs) ≡ true
all_filter p q [] all = refl
all_filter {X} p q (x ∷ xs) all =
    let parts = and_parts (q x) (list_all q xs) all in
    by (p x) parts.0 (all_filter p q xs parts.1)
  where
    by : (b : Bool) → q x ≡ true → list_all q (filter p xs) ≡ true → list_all q (cond b (x ∷ filter p xs) (filter p xs)) ≡ true
    by true here rest = and_from _ _ here rest
    by false here rest = rest

pub none_filter : {X : Type 0} (p t : X → Bool) (xs : List X) → list_any t xs ≡ false → list_any t (filter p xs) ≡ false
none_filter p t [] none = refl
none_filter {X} p t (x ∷ xs) none =
    let parts = or_parts (t x) (list_any t xs) none in
    by (p x) parts.0 (none_filter p t xs parts.1)
  where
    by : (b : Bool) → t x ≡ false → list_any t (filter p xs) ≡ false → list_any t (cond b (x ∷ filter p xs) (filter p xs)) ≡ false
    by true here rest = ap (λ b. b || list_any t (filter p xs)) here ∙ rest
    by false here rest = rest

pub filter_none : {X : Type 0} (t : X → Bool) (xs : List X) → list_any t xs ≡ false → filter (λ x. not (t x)) xs ≡ xs
filter_none t [] none = refl
filter_none t (x ∷ xs) none =
    let parts = or_parts (t x) (list_any t xs) none in
    ap (λ b. cond (not b) (x ∷ filter (λ y. not (t y)) xs) (filter (λ y. not (t y)) xs)) parts.0 ∙ ap (λ ys. x ∷ ys) (filter_none t xs parts.1)

-- two equal names are alike to every other
pub alike : (a b c : Name) → is_name a b ≡ true → is_name a c ≡ is_name b c
alike a b c is = (eq_by_cmp_equiv nat_list_cmp_total).congr a b c is

-- ---- one row more

module _ {Row : Type 0} (name_of : Row → Name) where
  abbrev is_other : Row → Row → Bool
  is_other row other = not (is_name (name_of row) (name_of other))

  pub has_more : (rows : List Row) (row : Row) (name : Name) → has (map name_of (rows ++ row ∷ [])) name ≡ (has (map name_of rows) name || is_name name (name_of row))
  has_more rows row name =
      ap (λ (names : List Name). has names name) (map-append name_of rows (row ∷ []))
      ∙ list_any-append (is_name name) (map name_of rows) (name_of row ∷ [])
      ∙ ap (λ b. has (map name_of rows) name || b) (or-false (is_name name (name_of row)))

  -- a name among the rows that have another name than the first
  has_others : (first row : Row) (rows : List Row) → has (map name_of (filter (is_other first) rows)) (name_of row) ≡ (is_other first row && has (map name_of rows) (name_of row))
  has_others first row rows =
      any_map (is_name (name_of row)) name_of (filter (is_other first) rows)
      ∙ any-filter_same (λ r. is_name (name_of row) (name_of r)) (is_other first) (is_other first row)
      (λ r is. ap not (name_turned (name_of first) (name_of r) ∙ sym (alike (name_of row) (name_of r) (name_of first) is) ∙ name_turned (name_of row) (name_of first))) rows
      ∙ ap (λ b. is_other first row && b) (sym (any_map (is_name (name_of row)) name_of rows))

  module _ (first row : Row) (kept : List Row) where
    abbrev others : List Row
    others = filter (is_other first) kept

    one_more : (q h : Bool) → is_name (name_of first) (name_of row) ≡ q
        → first ∷ filter (is_other first) (cond h kept (kept ++ row ∷ [])) ≡ cond (q || (not q && h)) (first ∷ others) (first ∷ (others ++ row ∷ []))
    one_more true true is_q = refl
    one_more false true is_q = refl
    one_more true false is_q =
        ap (λ xs. first ∷ xs) (filter-append (is_other first) kept (row ∷ []) ∙ ap (λ b. others ++ cond (not b) (row ∷ []) []) is_q ∙ append-nil others)
    one_more false false is_q =
        ap (λ xs. first ∷ xs) (filter-append (is_other first) kept (row ∷ []) ∙ ap (λ b. others ++ cond (not b) (row ∷ []) []) is_q)

    pushed : (q h : Bool) → is_name (name_of first) (name_of row) ≡ q → has (map name_of kept) (name_of row) ≡ h
        → first ∷ filter (is_other first) (with_row name_of kept (Some row)) ≡ with_row name_of (first ∷ others) (Some row)
    pushed q h is_q is_h =
        ap (λ b. first ∷ filter (is_other first) (cond b kept (kept ++ row ∷ []))) is_h
        ∙ one_more q h is_q
        ∙ sym (ap (λ b. cond (b || has (map name_of others) (name_of row)) (first ∷ others) (first ∷ (others ++ row ∷ []))) (name_turned (name_of row) (name_of first) ∙ is_q)
        ∙ ap (λ b. cond (q || b) (first ∷ others) (first ∷ (others ++ row ∷ []))) (has_others first row kept ∙ ap (λ b. not b && has (map name_of kept) (name_of row)) is_q ∙ ap (λ b. not q && b) is_h))

  pub firsts_push : (rows : List Row) (row : Row) → firsts name_of (rows ++ row ∷ []) ≡ with_row name_of (firsts name_of rows) (Some row)
  firsts_push [] row = refl
  firsts_push (first ∷ rows) row =
      ap (λ xs. first ∷ filter (is_other first) xs) (firsts_push rows row)
      ∙ pushed first row (firsts name_of rows) (is_name (name_of first) (name_of row)) (has (map name_of (firsts name_of rows)) (name_of row)) refl refl

  -- ---- what stands is sound

  pub all_firsts : (q : Row → Bool) (rows : List Row) → list_all q rows ≡ true → list_all q (firsts name_of rows) ≡ true
  all_firsts q [] all = refl
  all_firsts q (row ∷ rows) all =
      let parts = and_parts (q row) (list_all q rows) all in
      and_from _ _ parts.0 (all_filter (is_other row) q (firsts name_of rows) (all_firsts q rows parts.1))

  distinct_filter : (p : Row → Bool) (rows : List Row) → are_distinct (map name_of rows) ≡ true → are_distinct (map name_of (filter p rows)) ≡ true
  distinct_filter p [] is = refl
  distinct_filter p (row ∷ rows) is =
      let parts = and_parts (not (has (map name_of rows) (name_of row))) (are_distinct (map name_of rows)) is in
      by (p row) parts.0 (distinct_filter p rows parts.1)
    where
      by : (b : Bool) → not (has (map name_of rows) (name_of row)) ≡ true → are_distinct (map name_of (filter p rows)) ≡ true
          → are_distinct (map name_of (cond b (row ∷ filter p rows) (filter p rows))) ≡ true
      by true here rest =
          let none = none_filter p (λ r. is_name (name_of row) (name_of r)) rows (sym (any_map (is_name (name_of row)) name_of rows) ∙ not-true _ here) in
          and_from _ _ (ap not (any_map (is_name (name_of row)) name_of (filter p rows) ∙ none)) rest
      by false here rest = rest

  pub distinct_firsts : (rows : List Row) → are_distinct (map name_of (firsts name_of rows)) ≡ true
  distinct_firsts [] = refl
  distinct_firsts (row ∷ rows) =
      and_from _ _
      (ap not (any_map (is_name (name_of row)) name_of (filter (is_other row) (firsts name_of rows))
      ∙ any-filter_same (λ r. is_name (name_of row) (name_of r)) (is_other row) false (λ r is. ap not is) (firsts name_of rows)))
      (distinct_filter (is_other row) (firsts name_of rows) (distinct_firsts rows))

  -- rows with names of their own all stand
  pub firsts_distinct : (rows : List Row) → are_distinct (map name_of rows) ≡ true → firsts name_of rows ≡ rows
  firsts_distinct [] is = refl
  firsts_distinct (row ∷ rows) is =
      let parts = and_parts (not (has (map name_of rows) (name_of row))) (are_distinct (map name_of rows)) is in
      ap (λ xs. row ∷ filter (is_other row) xs) (firsts_distinct rows parts.1)
      ∙ ap (λ xs. row ∷ xs) (filter_none (λ r. is_name (name_of row) (name_of r)) rows (sym (any_map (is_name (name_of row)) name_of rows) ∙ not-true _ parts.0))
