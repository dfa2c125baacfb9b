-- The rows of a table, and their order.
use Rattle.std.proofs.Common.{◌≡◌, ℕ, ◌&&◌, ◌||◌, ◌==◌, Bool, true, false, not, cond, List, [], ◌∷◌, ◌++◌, length, find, map, Option, None, Some, option_map, refl, sym, ap, subst, ◌∙◌, arith}
use Rattle.std.proofs.Math.Path.{fun_ext}
use Rattle.std.proofs.lemmas.Bool.{and_parts, and_from, false≢true, not-true}
use Rattle.std.proofs.lemmas.List.Folds.{list_any-append}
use Rattle.std.proofs.lemmas.Map.Lookups.{exact_bytes, exact_pairs, exact_unsigned}
use Rattle.std.proofs.lemmas.List.{nil_from_length}
use Rattle.std.proofs.Math.Bool.{or-true}
use Rattle.std.specs.Cmp.{IsTotalOrder, both_ways}
use Rattle.std.specs.FinMap.{FinMap, IsAntisymmetric, empty, entries, entries-insert, from_entries, get, get-entries, get-from_entries, len-empty, len-entries, put, same_map, values}
use Rattle.std.specs.FinMap as finmap
use Rattle.std.specs.FinMap.Entries.{by_order}
use Rattle.std.specs.List.{AllByRecursion, list_any}
use Rattle.std.specs.List.Sorted.{IsStrictlySortedBy}
use Rattle.std.specs.Option.{option_or}
use Rattle.std.specs.Ordering.{eq_by_cmp, is_eq, nat_cmp, ordering_then}
use Rattle.std.specs.declared.cmp.Ordering.{Ordering}
use Rattle.std.specs.declared.cmp.Ordering.TheVariants.{Less, Equal, Greater}
use Rattle.host_trait.specs.Bytes.{bytes_cmp}
use Rattle.host_trait.proofs.KeyOrder.{keys_sorted}
use Rattle.host_trait.proofs.Places.{bytes_exact, bytes_total}
use Rattle.host_trait.proofs.NameOrder.{name_exact, name_itself}
use Rattle.switch_names.specs.Names.{Name, has, is_name}
use Rattle.account_text.specs.Order.{by_id, row_named}
use Rattle.account_text.specs.Table.{are_distinct}
use Rattle.account_text.proofs.FirstLemmas.{any_map}
use Rattle.account_text.proofs.OrderLemmas.{by_id_total}
use Rattle.users_merge.specs.Account.{Account, choose, free_id, give, has_id, of_other, span, unused, used_ids, while_some}
use Rattle.users_merge.specs.ByName.{row_ids}
use Rattle.users_merge.specs.Order.{in_order}
use Rattle.users_merge.specs.Stored.{table_of}
use Rattle.users_merge.specs.Taken.{wanted_ids}
use Rattle.users_merge.proofs.TableLemmas.{in_table, some_row}

-- ---- the entries of a table

module _ {Row : Type 0} (name_of : Row → Name) where
  abbrev AreNamed : List (Name × Row) → Type 0
  AreNamed es = AllByRecursion (λ (e : Name × Row). e.0 ≡ name_of e.1) es

  named_put : (key : Name) (row : Row) (es : List (Name × Row)) → key ≡ name_of row → AreNamed es → AreNamed (put bytes_cmp key row es)
  named_put key row [] is named = (is, tt)
  named_put key row (e ∷ es) is named = by (bytes_cmp key e.0) refl (named_put key row es is named.1)
    where
      by : (o : Ordering) → bytes_cmp key e.0 ≡ o → AreNamed (put bytes_cmp key row es) → AreNamed (by_order o ((key, row) ∷ e ∷ es) ((e.0, row) ∷ es) (e ∷ put bytes_cmp key row es))
      by Less less later = (is, named)
      by Equal tied later = (sym (bytes_exact key e.0 tied) ∙ is, named.1)
      by Greater more later = (named.0, later)

  no_entries : (es : List (Name × Row)) → length es ≡ 0 → AreNamed es
  no_entries [] e = tt
  no_entries (x ∷ es) e = absurd (omega arith)

  table_named : (rows : List Row) → AreNamed (entries (table_of name_of rows))
  table_named [] = no_entries _ (sym (len-entries empty) ∙ len-empty bytes_cmp Row)
  table_named (row ∷ rows) =
      subst AreNamed (sym (entries-insert bytes_total (table_of name_of rows) (name_of row) row))
      (named_put (name_of row) row (entries (table_of name_of rows)) refl (table_named rows))

  rows_of : List (Name × Row) → List Row
  rows_of es = map (λ (e : Name × Row). e.1) es

  named_found : (es : List (Name × Row)) (name : Name) → AreNamed es → finmap.find bytes_cmp name es ≡ row_named name_of (map (λ (e : Name × Row). e.1) es) name
  named_found [] name named = refl
  named_found (e ∷ es) name named = λ i. cond (is_name name (named.0 i)) (Some e.1) (named_found es name named.1 i)

  named_keys : (es : List (Name × Row)) → AreNamed es → map name_of (map (λ (e : Name × Row). e.1) es) ≡ map (λ (e : Name × Row). e.0) es
  named_keys [] named = refl
  named_keys (e ∷ es) named = λ i. sym named.0 i ∷ named_keys es named.1 i

  above_lack : (name : Name) (names : List Name) → AllByRecursion (λ other. bytes_cmp name other ≡ Less) names → has names name ≡ false
  above_lack name [] above = refl
  above_lack name (other ∷ names) above = ap (λ b. b || has names name) (ap is_eq above.0) ∙ above_lack name names above.1

  sorted_distinct : (names : List Name) → IsStrictlySortedBy bytes_cmp names → are_distinct names ≡ true
  unfolding IsStrictlySortedBy
  sorted_distinct [] sorted = refl
  sorted_distinct (name ∷ names) sorted = and_from _ _ (ap not (above_lack name names sorted.0)) (sorted_distinct names sorted.1)

  -- the rows of a table: the same by name, and each name once
  pub table_row : (rows : List Row) (name : Name) → row_named name_of (values (table_of name_of rows)) name ≡ row_named name_of rows name
  table_row rows name =
      sym (named_found (entries (table_of name_of rows)) name (table_named rows)) ∙ sym (get-entries (table_of name_of rows) name) ∙ in_table name_of rows name

  pub table_distinct : (rows : List Row) → are_distinct (map name_of (values (table_of name_of rows))) ≡ true
  table_distinct rows = ap are_distinct (named_keys (entries (table_of name_of rows)) (table_named rows)) ∙ sorted_distinct _ (keys_sorted (table_of name_of rows))

  -- ---- what some row is

  module _ (p : Row → Bool) where
    any_found : (rows : List Row) → are_distinct (map name_of rows) ≡ true → list_any p rows ≡ true → (row : Row) × (row_named name_of rows (name_of row) ≡ Some row) × (p row ≡ true)
    any_found [] distinct some = absurd (false≢true some)
    any_found (first ∷ rows) distinct some =
        let parts = and_parts (not (has (map name_of rows) (name_of first))) (are_distinct (map name_of rows)) distinct in
        by (p first) refl some (not-true _ parts.0) (any_found rows parts.1)
      where
        by : (b : Bool) → p first ≡ b → (b || list_any p rows) ≡ true → has (map name_of rows) (name_of first) ≡ false →
            (list_any p rows ≡ true → (row : Row) × (row_named name_of rows (name_of row) ≡ Some row) × (p row ≡ true)) →
            (row : Row) × (row_named name_of (first ∷ rows) (name_of row) ≡ Some row) × (p row ≡ true)
        by true is here apart rest = (first, ap (λ b. cond b (Some first) (row_named name_of rows (name_of first))) (name_itself (name_of first)), is)
        by false is there apart rest =
            let one = rest there in
            (one.0, later one.0 one.1 (is_name (name_of one.0) (name_of first)) refl, one.2)
          where
            later : (row : Row) → row_named name_of rows (name_of row) ≡ Some row → (b : Bool) → is_name (name_of row) (name_of first) ≡ b →
                cond (is_name (name_of row) (name_of first)) (Some first) (row_named name_of rows (name_of row)) ≡ Some row
            later row found true same =
                absurd (false≢true (sym apart ∙ ap (has (map name_of rows)) (sym (name_exact (name_of row) (name_of first) same)) ∙ some_row name_of rows (name_of row) row found))
            later row found false other = ap (λ b. cond b (Some first) (row_named name_of rows (name_of row))) other ∙ found

    found_any : (q : Row → Bool) (rows : List Row) (row : Row) → find q rows ≡ Some row → p row ≡ true → list_any p rows ≡ true
    found_any q [] row found is = absurd (let none : None ≡ Some row = found in cc)
    found_any q (first ∷ rows) row found is = by (q first) found (λ there. found_any q rows row there is)
      where
        by : (b : Bool) → cond b (Some first) (find q rows) ≡ Some row → (find q rows ≡ Some row → list_any p rows ≡ true) → (p first || list_any p rows) ≡ true
        by true here later = let same : first ≡ row = cc in ap (λ b. b || list_any p rows) (ap p same ∙ is)
        by false there later = ap (λ b. p first || b) (later there) ∙ or-true (p first)

    -- rows that are the same by name have some row alike
    pub any_alike : (xs ys : List Row) → are_distinct (map name_of xs) ≡ true → are_distinct (map name_of ys) ≡ true → ((name : Name) → row_named name_of xs name ≡ row_named name_of ys name) → list_any p xs ≡ list_any p ys
    any_alike xs ys one other same =
        both_ways _ _
        (λ some. let row = any_found xs one some in found_any (λ r. is_name (name_of row.0) (name_of r)) ys row.0 (sym (same (name_of row.0)) ∙ row.1) row.2)
        (λ some. let row = any_found ys other some in found_any (λ r. is_name (name_of row.0) (name_of r)) xs row.0 (same (name_of row.0) ∙ row.1) row.2)

  -- the ids of a table are those of its rows
  pub table_ids : (id_of : Row → ℕ) (rows : List Row) (wanted : List ℕ) (id : ℕ) → are_distinct (map name_of rows) ≡ true →
      has_id (map id_of (values (table_of name_of rows)) ++ wanted) id ≡ has_id (map id_of rows ++ wanted) id
  table_ids id_of rows wanted id distinct =
      list_any-append (λ other. other == id) (map id_of (values (table_of name_of rows))) wanted
      ∙ ap (λ b. b || has_id wanted id)
      (any_map (λ other. other == id) id_of (values (table_of name_of rows))
      ∙ any_alike (λ row. id_of row == id) (values (table_of name_of rows)) rows (table_distinct rows) distinct (table_row rows)
      ∙ sym (any_map (λ other. other == id) id_of rows))
      ∙ sym (list_any-append (λ other. other == id) (map id_of rows) wanted)

-- ---- ids that are given

has_more : (used : List ℕ) (id i : ℕ) → has_id (used ++ id ∷ []) i ≡ (has_id used i || has_id (id ∷ []) i)
has_more used id i = list_any-append (λ other. other == i) used (id ∷ [])

module _ (rows : Name → Option ℕ) (known : finmap.FinMap bytes_cmp ℕ) where
  abbrev unused_by : (ℕ → Bool) → Option ℕ → Option ℕ
  unused_by test None = None
  unused_by test (Some id) = cond (test id) None (Some id)

  unused_same : (used : List ℕ) (o : Option ℕ) → unused used o ≡ unused_by (has_id used) o
  unused_same used None = refl
  unused_same used (Some id) = refl

  abbrev choose_by : (ℕ → Bool) → Account → Option ℕ
  choose_by test account =
      option_or (rows account.name)
      (option_or account.wanted
      (option_or (unused_by test (get known account.name)) (find (λ id. not (test id) && not (of_other known account.name id)) (span account.system))))

  choose_same : (used : List ℕ) (account : Account) → choose rows known used account ≡ choose_by (has_id used) account
  choose_same used account =
      ap (λ o. option_or (rows account.name) (option_or account.wanted (option_or o (free_id known used account)))) (unused_same used (get known account.name))

  -- the ids depend on which ids are used, and on no order of them
  pub give_same : (accounts : List Account) (used other : List ℕ) → ((id : ℕ) → has_id used id ≡ has_id other id) → give rows known used accounts ≡ give rows known other accounts
  give_same [] used other same = refl
  give_same (account ∷ accounts) used other same =
      ap (λ o. while_some o (λ id. give rows known (used ++ id ∷ []) accounts)) (choose_same used account ∙ ap (λ test. choose_by test account) (fun_ext same) ∙ sym (choose_same other account))
      ∙ ap (while_some (choose rows known other account))
      (fun_ext (λ id. give_same accounts (used ++ id ∷ []) (other ++ id ∷ []) (λ i. has_more used id i ∙ ap (λ b. b || has_id (id ∷ []) i) (same i) ∙ sym (has_more other id i))))

-- ---- rows in order

module _ {K X : Type 0} {R : K → K → Ordering} (total : IsTotalOrder R) where
  entry_first : (k : K) (v : X) (es : List (K × X)) → AllByRecursion (λ (other : K). R k other ≡ Less) (map (λ (e : K × X). e.0) es) → put R k v es ≡ (k, v) ∷ es
  entry_first k v [] above = refl
  entry_first k v (e ∷ es) above = ap (λ o. by_order o ((k, v) ∷ e ∷ es) ((e.0, v) ∷ es) (e ∷ put R k v es)) above.0

  entries_ordered : (es : List (K × X)) → IsStrictlySortedBy R (map (λ (e : K × X). e.0) es) → entries (from_entries {R = R} es) ≡ es
  unfolding IsStrictlySortedBy
  entries_ordered [] sorted = nil_from_length _ (sym (len-entries empty) ∙ len-empty R X)
  entries_ordered (e ∷ es) sorted = entries-insert total (from_entries es) e.0 e.1 ∙ ap (put R e.0 e.1) (entries_ordered es sorted.1) ∙ entry_first e.0 e.1 es sorted.0

by_id_exact : IsAntisymmetric by_id
by_id_exact = exact_pairs nat_cmp bytes_cmp exact_unsigned exact_bytes

module _ {Row : Type 0} (key_of : Row → ℕ × Name) where
  abbrev name_by : Row → Name
  name_by row = (key_of row).1

  abbrev with_key : Row → (ℕ × Name) × Row
  with_key row = (key_of row, row)

  -- the row of a key, if the row of its name has it
  abbrev picked : ℕ × Name → Option Row → Option Row
  picked q None = None
  picked q (Some row) = cond (eq_by_cmp by_id q (key_of row)) (Some row) None

  same_name : (q : ℕ × Name) (row : Row) → eq_by_cmp by_id q (key_of row) ≡ true → is_name q.1 (name_by row) ≡ true
  same_name q row tied = by (nat_cmp q.0 (key_of row).0) tied
    where
      by : (o : Ordering) → is_eq (ordering_then o (bytes_cmp q.1 (key_of row).1)) ≡ true → is_name q.1 (name_by row) ≡ true
      by Less is = absurd (false≢true is)
      by Equal is = is
      by Greater is = absurd (false≢true is)

  find_key : (rows : List Row) (q : ℕ × Name) → are_distinct (map name_by rows) ≡ true → finmap.find by_id q (map with_key rows) ≡ picked q (row_named name_by rows q.1)
  find_key [] q distinct = refl
  find_key (row ∷ rows) q distinct =
      let parts = and_parts (not (has (map name_by rows) (name_by row))) (are_distinct (map name_by rows)) distinct in
      by (eq_by_cmp by_id q (key_of row)) refl (is_name q.1 (name_by row)) refl (not-true _ parts.0) (find_key rows q parts.1)
    where
      rest : Option Row
      rest = row_named name_by rows q.1

      by : (b : Bool) → eq_by_cmp by_id q (key_of row) ≡ b → (c : Bool) → is_name q.1 (name_by row) ≡ c → has (map name_by rows) (name_by row) ≡ false →
          finmap.find by_id q (map with_key rows) ≡ picked q rest →
          cond b (Some row) (finmap.find by_id q (map with_key rows)) ≡ picked q (cond c (Some row) rest)
      by true tied true is apart rec = sym (ap (λ b. cond b (Some row) None) tied)
      by true tied false is apart rec = absurd (false≢true (sym is ∙ same_name q row tied))
      by false tied true is apart rec = rec ∙ ap (picked q) (lack rest refl) ∙ sym (ap (λ b. cond b (Some row) None) tied)
        where
          lack : (o : Option Row) → rest ≡ o → rest ≡ None
          lack None none = none
          lack (Some other) there =
              absurd (false≢true (sym apart ∙ ap (has (map name_by rows)) (sym (name_exact q.1 (name_by row) is)) ∙ some_row name_by rows q.1 other there))
      by false tied false is apart rec = rec

  keys_are : (rows : List Row) → map (λ (e : (ℕ × Name) × Row). e.0) (map with_key rows) ≡ map key_of rows
  keys_are [] = refl
  keys_are (row ∷ rows) = ap (λ ks. key_of row ∷ ks) (keys_are rows)

  rows_are : (rows : List Row) → map (λ (e : (ℕ × Name) × Row). e.1) (map with_key rows) ≡ rows
  rows_are [] = refl
  rows_are (row ∷ rows) = ap (λ rs. row ∷ rs) (rows_are rows)

  -- rows in order are their table in order
  pub is_in_order : (rows : List Row) → IsStrictlySortedBy by_id (map key_of rows) → are_distinct (map name_by rows) ≡ true → rows ≡ in_order key_of (table_of name_by rows)
  unfolding in_order
  is_in_order rows sorted distinct =
      sym (ap (map (λ (e : (ℕ × Name) × Row). e.1)) (entries_ordered by_id_total (map with_key rows) (subst (IsStrictlySortedBy by_id) (sym (keys_are rows)) sorted)) ∙ rows_are rows)
      ∙ ap values
      (same_map by_id_total by_id_exact (from_entries (map with_key rows)) (from_entries (map with_key (values (table_of name_by rows)))) (λ q.
      get-from_entries by_id_total (map with_key rows) q ∙ find_key rows q distinct
      ∙ ap (picked q) (sym (table_row name_by rows q.1))
      ∙ sym (get-from_entries by_id_total (map with_key (values (table_of name_by rows))) q ∙ find_key (values (table_of name_by rows)) q (table_distinct name_by rows))))

-- the ids that rows give are those that their table gives
pub ids_from_table :
    {Row : Type 0} (name_of : Row → Name) (id_of : Row → ℕ) (table : List Row) (known : FinMap bytes_cmp ℕ) (accounts : List Account) → are_distinct (map name_of table) ≡ true →
    give (row_ids name_of id_of table) known (used_ids (map id_of table) accounts) accounts
    ≡ give (λ name. option_map id_of (get (table_of name_of table) name)) known (used_ids (map id_of (values (table_of name_of table))) accounts) accounts
ids_from_table name_of id_of table known accounts distinct =
    give_same (row_ids name_of id_of table) known accounts (used_ids (map id_of table) accounts) (used_ids (map id_of (values (table_of name_of table))) accounts)
    (λ id. sym (table_ids name_of id_of table (wanted_ids accounts) id distinct))
    ∙ ap (λ rows. give rows known (used_ids (map id_of (values (table_of name_of table))) accounts) accounts) (fun_ext (λ name. ap (option_map id_of) (sym (in_table name_of table name))))
