-- The row of one name, among rows that are made one after another.
use Rattle.std.proofs.Common.{◌≡◌, ◌&&◌, ◌||◌, Bool, true, false, not, cond, List, [], ◌∷◌, ◌++◌, filter, find, map, Option, None, Some, is_some, option_map, refl, sym, ap, ◌∙◌}
use Rattle.std.proofs.lemmas.Bool.{and_parts, and_from, or_from, not-true}
use Rattle.std.proofs.Math.Bool.{or-true}
use Rattle.std.specs.FinMap.{get, get-from_entries}
use Rattle.std.specs.FinMap as finmap
use Rattle.std.specs.List.{list_any}
use Rattle.std.specs.Option.{option_or}
use Rattle.host_trait.specs.Bytes.{bytes_cmp}
use Rattle.host_trait.proofs.Places.{bytes_total}
use Rattle.host_trait.proofs.NameOrder.{name_exact, name_itself}
use Rattle.switch_names.specs.Names.{Name, has, is_name}
use Rattle.switch_names.proofs.Lists.{find_passes}
use Rattle.account_text.specs.Order.{row_named}
use Rattle.account_text.specs.Table.{are_distinct}
use Rattle.account_text.proofs.FirstLemmas.{any_map, none_filter}
use Rattle.users_spec.specs.AccountName as declared
use Rattle.users_merge.specs.Account.{Account, id_of}
use Rattle.users_merge.specs.Given.{given_accounts, given_ids}
use Rattle.users_merge.specs.Stored.{table_of}
use Rattle.users_merge.specs.declared.giving.Given.{Given}
use Rattle.users_merge.proofs.NameLemmas.{has-append}

-- ---- searches

pub find_append : {X : Type 0} (p : X → Bool) (xs ys : List X) → find p (xs ++ ys) ≡ option_or (find p xs) (find p ys)
find_append p [] ys = refl
find_append {X} p (x ∷ xs) ys = by (p x) (find_append p xs ys)
  where
    by : (b : Bool) → find p (xs ++ ys) ≡ option_or (find p xs) (find p ys) → cond b (Some x) (find p (xs ++ ys)) ≡ option_or (cond b (Some x) (find p xs)) (find p ys)
    by true later = refl
    by false later = later

pub find_map : {X Y : Type 0} (p : Y → Bool) (f : X → Y) (xs : List X) → find p (map f xs) ≡ option_map f (find (λ x. p (f x)) xs)
find_map p f [] = refl
find_map {X} {Y} p f (x ∷ xs) = by (p (f x)) (find_map p f xs)
  where
    by : (b : Bool) → find p (map f xs) ≡ option_map f (find (λ y. p (f y)) xs) → cond b (Some (f x)) (find p (map f xs)) ≡ option_map f (cond b (Some x) (find (λ y. p (f y)) xs))
    by true later = refl
    by false later = later

pub is_found : {X : Type 0} (p : X → Bool) (xs : List X) → is_some (find p xs) ≡ list_any p xs
is_found p [] = refl
is_found {X} p (x ∷ xs) = by (p x) (is_found p xs)
  where
    by : (b : Bool) → is_some (find p xs) ≡ list_any p xs → is_some (cond b (Some x) (find p xs)) ≡ (b || list_any p xs)
    by true later = refl
    by false later = later

-- ---- tables

module _ {Row : Type 0} (name_of : Row → Name) where
  find_pair : (rows : List Row) (name : Name) → finmap.find bytes_cmp name (map (λ row. (name_of row, row)) rows) ≡ row_named name_of rows name
  find_pair [] name = refl
  find_pair (row ∷ rows) name = ap (cond (is_name name (name_of row)) (Some row)) (find_pair rows name)

  -- a table has the first row of a name
  pub in_table : (rows : List Row) (name : Name) → get (table_of name_of rows) name ≡ row_named name_of rows name
  in_table rows name = get-from_entries bytes_total (map (λ row. (name_of row, row)) rows) name ∙ find_pair rows name

  pub has_row : (rows : List Row) (name : Name) → is_some (row_named name_of rows name) ≡ has (map name_of rows) name
  has_row rows name = is_found (λ row. is_name name (name_of row)) rows ∙ sym (any_map (is_name name) name_of rows)

  -- a name of which there is no row isn't among those of the rows
  pub no_row : (rows : List Row) (name : Name) → row_named name_of rows name ≡ None → has (map name_of rows) name ≡ false
  no_row rows name none = sym (has_row rows name) ∙ ap is_some none

  pub some_row : (rows : List Row) (name : Name) (row : Row) → row_named name_of rows name ≡ Some row → has (map name_of rows) name ≡ true
  some_row rows name row is = sym (has_row rows name) ∙ ap is_some is

  -- of the rows whose names stay
  pub find_staying : (stays : Name → Bool) (rows : List Row) (name : Name) → row_named name_of (filter (λ row. stays (name_of row)) rows) name ≡ cond (stays name) (row_named name_of rows name) None
  find_staying stays [] name = by (stays name)
    where
      by : (b : Bool) → row_named name_of [] name ≡ cond b (row_named name_of [] name) None
      by true = refl
      by false = refl
  find_staying stays (row ∷ rows) name = by (stays (name_of row)) (is_name name (name_of row)) refl refl (find_staying stays rows name)
    where
      rest : List Row
      rest = filter (λ r. stays (name_of r)) rows

      same : is_name name (name_of row) ≡ true → stays name ≡ stays (name_of row)
      same is = ap stays (name_exact name (name_of row) is)

      by : (b c : Bool) → stays (name_of row) ≡ b → is_name name (name_of row) ≡ c → row_named name_of rest name ≡ cond (stays name) (row_named name_of rows name) None →
          row_named name_of (cond b (row ∷ rest) rest) name ≡ cond (stays name) (cond c (Some row) (row_named name_of rows name)) None
      by true true stay is rec = ap (λ c. cond c (Some row) (row_named name_of rest name)) is ∙ sym (ap (λ b. cond b (Some row) None) (same is ∙ stay))
      by true false stay is rec = ap (λ c. cond c (Some row) (row_named name_of rest name)) is ∙ rec
      by false true go is rec = rec ∙ ap (λ b. cond b (row_named name_of rows name) None) (same is ∙ go) ∙ sym (ap (λ b. cond b (Some row) None) (same is ∙ go))
      by false false go is rec = rec

-- ---- accounts and their ids

module _ {Declared : Type 0} (asked : Declared → Account) where
  abbrev pub found_given : Name → List (Given Declared) → Option (Given Declared)
  found_given name given = find (λ one. is_name name (asked one.account.now).name) given

  pub given_account : (given : List (Given Declared)) (name : Name) → find (λ account. is_name name (asked account).name) (given_accounts given) ≡ option_map (λ one. one.account.now) (found_given name given)
  given_account given name = find_map (λ account. is_name name (asked account).name) (λ (one : Given Declared). one.account.now) given

  pub given_id : (given : List (Given Declared)) (name : Name) → id_of (map asked (given_accounts given)) (given_ids given) name ≡ option_map (λ one. one.id) (found_given name given)
  given_id [] name = refl
  given_id (one ∷ given) name = by (is_name name (asked one.account.now).name) (given_id given name)
    where
      by : (b : Bool) → id_of (map asked (given_accounts given)) (given_ids given) name ≡ option_map (λ (g : Given Declared). g.id) (found_given name given) → cond b (Some one.id) (id_of (map asked (given_accounts given)) (given_ids given) name) ≡ option_map (λ (g : Given Declared). g.id) (cond b (Some one) (found_given name given))
      by true later = refl
      by false later = later

-- ---- distinct names

pub same_distinct : (names : List Name) → declared.are_distinct names ≡ are_distinct names
same_distinct [] = refl
same_distinct (name ∷ names) = ap (λ b. not (has names name) && b) (same_distinct names)

pub distinct_join : (xs ys : List Name) → are_distinct xs ≡ true → are_distinct ys ≡ true → ((name : Name) → has xs name ≡ true → has ys name ≡ false) → are_distinct (xs ++ ys) ≡ true
distinct_join [] ys one other apart = other
distinct_join (x ∷ xs) ys one other apart =
    let parts = and_parts (not (has xs x)) (are_distinct xs) one in
    and_from _ _
    (ap not (has-append xs ys x ∙ or_from (has xs x) (has ys x) (not-true _ parts.0) (apart x (ap (λ b. b || has xs x) (name_itself x)))))
    (distinct_join xs ys parts.1 other (λ name there. apart name (ap (λ b. is_name name x || b) there ∙ or-true (is_name name x))))

pub distinct_filter : {Row : Type 0} (name_of : Row → Name) (p : Row → Bool) (rows : List Row) → are_distinct (map name_of rows) ≡ true → are_distinct (map name_of (filter p rows)) ≡ true
distinct_filter name_of p [] is = refl
distinct_filter {Row} name_of p (row ∷ rows) is =
    let parts = and_parts (not (has (map name_of rows) (name_of row))) (are_distinct (map name_of rows)) is in
    by (p row) (not-true _ parts.0) (distinct_filter name_of p rows parts.1)
  where
    by : (b : Bool) → has (map name_of rows) (name_of row) ≡ false → are_distinct (map name_of (filter p rows)) ≡ true → are_distinct (map name_of (cond b (row ∷ filter p rows) (filter p rows))) ≡ true
    by true apart rest =
        and_from _ _
        (ap not (any_map (is_name (name_of row)) name_of (filter p rows)
        ∙ none_filter p (λ r. is_name (name_of row) (name_of r)) rows (sym (any_map (is_name (name_of row)) name_of rows) ∙ apart)))
        rest
    by false apart rest = rest
