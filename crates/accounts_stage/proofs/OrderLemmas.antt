-- The rows of a table in order are its rows.
use Rattle.std.proofs.Common.{◌≡◌, ℕ, Bool, true, false, not, List, [], ◌∷◌, map, filter_map, Option, None, Some, IfSome, refl, sym, ap, subst, ◌∙◌}
use Rattle.std.proofs.lemmas.Bool.{and_from, and_parts, false≢true, or_parts, not-true}
use Rattle.std.proofs.lemmas.List.Sorted.{IsPermutation-cons, IsPermutation-map, IsPermutation-middle, IsPermutation-refl, IsPermutation-trans}
use Rattle.std.proofs.lemmas.List.{nil_from_length}
use Rattle.std.specs.Cmp.{IsTotalOrder}
use Rattle.std.specs.FinMap.{empty, entries, entries-insert, from_entries, get, keys, len-empty, len-entries, put, values}
use Rattle.std.specs.FinMap.Entries.{by_order}
use Rattle.std.specs.List.{AllByRecursion, cons_option, list_all}
use Rattle.std.specs.List.Sorted.{IsPermutation}
use Rattle.std.specs.Ordering.{is_eq, nat_cmp, ordering_then}
use Rattle.std.specs.declared.cmp.Ordering.{Ordering}
use Rattle.std.specs.declared.cmp.Ordering.TheVariants.{Equal, Greater, Less}
use Rattle.host_trait.specs.Bytes.{bytes_cmp}
use Rattle.host_trait.proofs.Places.{alike, bytes_total}
use Rattle.switch_names.specs.Names.{Name, has, is_name}
use Rattle.account_text.specs.Order.{by_id, row_named}
use Rattle.account_text.specs.Table.{are_distinct}
use Rattle.account_text.proofs.OrderLemmas.{all_moved, by_id_total, distinct_moved, same_row}
use Rattle.users_merge.specs.Order.{in_order}
use Rattle.users_merge.specs.Stored.{Table, table_of}
use Rattle.users_merge.proofs.RowOrderLemmas.{table_distinct, table_row}
use Rattle.users_merge.proofs.TableLemmas.{in_table}

-- ---- the values of a map that is made of entries

module _ {K X : Type 0} {R : K → K → Ordering} (total : IsTotalOrder R) where
  abbrev rows_in : List (K × X) → List X
  rows_in es = map (λ (e : K × X). e.1) es

  abbrev nothing : List (K × X)
  nothing = []

  no_entries : entries (from_entries {R = R} nothing) ≡ []
  no_entries = nil_from_length _ (sym (len-entries empty) ∙ len-empty R X)

  all_put : (p : X → Bool) (k : K) (x : X) (es : List (K × X)) → p x ≡ true → list_all p (rows_in es) ≡ true → list_all p (rows_in (put R k x es)) ≡ true
  all_put p k x [] is all = and_from _ _ is refl
  all_put p k x (e ∷ es) is all = let parts = and_parts (p e.1) (list_all p (rows_in es)) all in by (R k e.0) parts.0 parts.1 (all_put p k x es is parts.1)
    where
      by : (o : Ordering) → p e.1 ≡ true → list_all p (rows_in es) ≡ true → list_all p (rows_in (put R k x es)) ≡ true →
          list_all p (rows_in (by_order o ((k, x) ∷ e ∷ es) ((e.0, x) ∷ es) (e ∷ put R k x es))) ≡ true
      by Less first rest later = and_from _ _ is (and_from _ _ first rest)
      by Equal first rest later = and_from _ _ is rest
      by Greater first rest later = and_from _ _ first later

  -- what a test says of each value that goes in, it says of each that is there
  pub all_values : (p : X → Bool) (es : List (K × X)) → list_all p (rows_in es) ≡ true → list_all p (values (from_entries {R = R} es)) ≡ true
  all_values p [] all = ap (λ es. list_all p (rows_in es)) no_entries
  all_values p (e ∷ es) all =
      let parts = and_parts (p e.1) (list_all p (rows_in es)) all in
      ap (λ l. list_all p (rows_in l)) (entries-insert total (from_entries es) e.0 e.1) ∙ all_put p e.0 e.1 (entries (from_entries es)) parts.0 (all_values p es parts.1)

  abbrev keys_in : List (K × X) → List K
  keys_in es = map (λ (e : K × X). e.0) es

  key_put : (p : K → Bool) (k : K) (x : X) (es : List (K × X)) → p k ≡ true → list_all p (keys_in es) ≡ true → list_all p (keys_in (put R k x es)) ≡ true
  key_put p k x [] is all = and_from _ _ is refl
  key_put p k x (e ∷ es) is all = let parts = and_parts (p e.0) (list_all p (keys_in es)) all in by (R k e.0) parts.0 parts.1 (key_put p k x es is parts.1)
    where
      by : (o : Ordering) → p e.0 ≡ true → list_all p (keys_in es) ≡ true → list_all p (keys_in (put R k x es)) ≡ true →
          list_all p (keys_in (by_order o ((k, x) ∷ e ∷ es) ((e.0, x) ∷ es) (e ∷ put R k x es))) ≡ true
      by Less first rest later = and_from _ _ is (and_from _ _ first rest)
      by Equal first rest later = and_from _ _ first rest
      by Greater first rest later = and_from _ _ first later

  -- and of each key
  pub all_keys : (p : K → Bool) (es : List (K × X)) → list_all p (keys_in es) ≡ true → list_all p (keys (from_entries {R = R} es)) ≡ true
  all_keys p [] all = ap (λ es. list_all p (keys_in es)) no_entries
  all_keys p (e ∷ es) all =
      let parts = and_parts (p e.0) (list_all p (keys_in es)) all in
      ap (λ l. list_all p (keys_in l)) (entries-insert total (from_entries es) e.0 e.1) ∙ key_put p e.0 e.1 (entries (from_entries es)) parts.0 (all_keys p es parts.1)

  -- a key ties with none of these
  abbrev IsOther : K → List (K × X) → Type 0
  IsOther k es = AllByRecursion (λ (e : K × X). is_eq (R k e.0) ≡ false) es

  other_put : (k l : K) (x : X) (es : List (K × X)) → is_eq (R k l) ≡ false → IsOther k es → IsOther k (put R l x es)
  other_put k l x [] is all = (is, tt)
  other_put k l x (e ∷ es) is all = by (R l e.0) (other_put k l x es is all.1)
    where
      by : (o : Ordering) → IsOther k (put R l x es) → IsOther k (by_order o ((l, x) ∷ e ∷ es) ((e.0, x) ∷ es) (e ∷ put R l x es))
      by Less later = (is, all)
      by Equal later = all
      by Greater later = (all.0, later)

  other_entries : (k : K) (es : List (K × X)) → IsOther k es → IsOther k (entries (from_entries {R = R} es))
  other_entries k [] other = subst (IsOther k) (sym no_entries) tt
  other_entries k (e ∷ es) other =
      subst (IsOther k) (sym (entries-insert total (from_entries es) e.0 e.1)) (other_put k e.0 e.1 (entries (from_entries es)) other.0 (other_entries k es other.1))

  put_moved : (k : K) (x : X) (es : List (K × X)) → IsOther k es → IsPermutation (x ∷ rows_in es) (rows_in (put R k x es))
  put_moved k x [] other = IsPermutation-refl (x ∷ [])
  put_moved k x (e ∷ es) other = by (R k e.0) other.0 (put_moved k x es other.1)
    where
      by : (o : Ordering) → is_eq o ≡ false → IsPermutation (x ∷ rows_in es) (rows_in (put R k x es)) →
          IsPermutation (x ∷ e.1 ∷ rows_in es) (rows_in (by_order o ((k, x) ∷ e ∷ es) ((e.0, x) ∷ es) (e ∷ put R k x es)))
      by Less is later = IsPermutation-refl (x ∷ e.1 ∷ rows_in es)
      by Equal is later = absurd (false≢true (sym is))
      by Greater is later =
          IsPermutation-trans (x ∷ e.1 ∷ rows_in es) (e.1 ∷ x ∷ rows_in es) (e.1 ∷ rows_in (put R k x es)) (IsPermutation-middle (x ∷ []) e.1 (rows_in es))
          (IsPermutation-cons e.1 (x ∷ rows_in es) (rows_in (put R k x es)) later)

  abbrev AreOther : List (K × X) → Type 0
  AreOther [] = Unit {0}
  AreOther (e ∷ es) = IsOther e.0 es × AreOther es

  -- where no two keys tie, the values are those that went in
  pub values_moved : (es : List (K × X)) → AreOther es → IsPermutation (rows_in es) (values (from_entries {R = R} es))
  values_moved [] other = subst (λ l. IsPermutation [] (rows_in l)) (sym no_entries) (IsPermutation-refl [])
  values_moved (e ∷ es) other =
      IsPermutation-trans (e.1 ∷ rows_in es) (e.1 ∷ rows_in (entries (from_entries {R = R} es))) _ (IsPermutation-cons e.1 (rows_in es) (rows_in (entries (from_entries {R = R} es))) (values_moved es other.1))
      (subst (λ l. IsPermutation (e.1 ∷ rows_in (entries (from_entries {R = R} es))) (rows_in l)) (sym (entries-insert total (from_entries es) e.0 e.1))
      (put_moved e.0 e.1 (entries (from_entries es)) (other_entries e.0 es other.0)))

-- ---- a table in order

module _ {Row : Type 0} (key_of : Row → ℕ × Name) where
  abbrev name_by : Row → Name
  name_by row = (key_of row).1

  abbrev with_key : Row → (ℕ × Name) × Row
  with_key row = (key_of row, row)

  untied : (first row : Row) → is_name (name_by first) (name_by row) ≡ false → is_eq (by_id (key_of first) (key_of row)) ≡ false
  untied first row other = by (nat_cmp (key_of first).0 (key_of row).0)
    where
      by : (o : Ordering) → is_eq (ordering_then o (bytes_cmp (name_by first) (name_by row))) ≡ false
      by Less = refl
      by Equal = other
      by Greater = refl

  other_rows : (first : Row) (rows : List Row) → has (map name_by rows) (name_by first) ≡ false → AllByRecursion (λ (e : (ℕ × Name) × Row). is_eq (by_id (key_of first) e.0) ≡ false) (map with_key rows)
  other_rows first [] none = tt
  other_rows first (row ∷ rows) none =
      let parts = or_parts (is_name (name_by first) (name_by row)) (has (map name_by rows) (name_by first)) none in
      (untied first row parts.0, other_rows first rows parts.1)

  are_other : (rows : List Row) → are_distinct (map name_by rows) ≡ true → AreOther by_id_total (map with_key rows)
  are_other [] distinct = tt
  are_other (row ∷ rows) distinct =
      let parts = and_parts (not (has (map name_by rows) (name_by row))) (are_distinct (map name_by rows)) distinct in
      (other_rows row rows (not-true _ parts.0), are_other rows parts.1)

  keyed_rows : (rows : List Row) → map (λ (e : (ℕ × Name) × Row). e.1) (map with_key rows) ≡ rows
  keyed_rows [] = refl
  keyed_rows (row ∷ rows) = ap (λ rs. row ∷ rs) (keyed_rows rows)

  named_rows : (rows : List Row) → map (λ (e : Name × Row). e.1) (map (λ row. (name_by row, row)) rows) ≡ rows
  named_rows [] = refl
  named_rows (row ∷ rows) = ap (λ rs. row ∷ rs) (named_rows rows)

  module _ (rows : List Row) where
    abbrev table : Table Row
    table = table_of name_by rows

    moved : IsPermutation (values table) (in_order key_of table)
    unfolding in_order
    moved = subst (λ rs. IsPermutation rs (values (from_entries {R = by_id} (map with_key (values table))))) (keyed_rows (values table))
        (values_moved by_id_total (map with_key (values table)) (are_other (values table) (table_distinct name_by rows)))

    -- what a test says of each row it says of each in order
    pub all_in_order : (p : Row → Bool) → list_all p rows ≡ true → list_all p (in_order key_of table) ≡ true
    all_in_order p all =
        sym (all_moved p (values table) (in_order key_of table) moved)
        ∙ all_values bytes_total p (map (λ row. (name_by row, row)) rows) (ap (list_all p) (named_rows rows) ∙ all)

    pub distinct_in_order : are_distinct (map name_by (in_order key_of table)) ≡ true
    distinct_in_order =
        distinct_moved (map name_by (values table)) (map name_by (in_order key_of table)) (IsPermutation-map name_by (values table) (in_order key_of table) moved) (table_distinct name_by rows)

    pub named_in_order : (name : Name) → row_named name_by (in_order key_of table) name ≡ get table name
    named_in_order name = same_row name_by name (values table) (in_order key_of table) moved (table_distinct name_by rows) ∙ table_row name_by rows name ∙ sym (in_table name_by rows name)

    -- the table of the rows in order is the table
    pub table_in_order : table_of name_by (in_order key_of table) ≡ table
    table_in_order = alike _ _ (λ name. in_table name_by (in_order key_of table) name ∙ named_in_order name)

-- a test of rows that are made
pub all_made : {X Row : Type 0} (p : Row → Bool) (f : X → Option Row) (xs : List X) → ((x : X) → IfSome (f x) (λ row. p row ≡ true)) → list_all p (filter_map f xs) ≡ true
all_made p f [] each = refl
all_made {X} {Row} p f (x ∷ xs) each = by (f x) (each x) (all_made p f xs each)
  where
    by : (o : Option Row) → IfSome o (λ row. p row ≡ true) → list_all p (filter_map f xs) ≡ true → list_all p (cons_option o (filter_map f xs)) ≡ true
    by None is rest = rest
    by (Some row) is rest = and_from _ _ is rest
