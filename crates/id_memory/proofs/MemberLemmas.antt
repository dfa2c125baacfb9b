-- The members of objects, and the rows that they are.
use Rattle.std.proofs.Common.{◌≡◌, ℕ, ◌+◌, ◌<◌, ◌≤◌, true, false, cond, List, [], ◌∷◌, ◌++◌, length, take, drop, get_or, option_map, Option, None, Some, String, Global, string_bytes, string_cmp, refl, sym, ap, ap₂, ◌∙◌, subst, suc, max, nat_cmp, nat_le, option_and_then, arith, append_assoc}
use Rattle.std.proofs.lemmas.Bool.Decides.{nat_tests}
use Rattle.std.proofs.lemmas.List.{map-append, take_more}
use Rattle.std.proofs.lemmas.Option.{slice_get-get_or}
use Rattle.std.proofs.lemmas.Str.{IsUtf8-from_is_utf8, is_utf8-from_IsUtf8}
use Rattle.std.specs.List.{AllByRecursion}
use Rattle.std.specs.List.Sorted.{IsStrictlySortedBy}
use Rattle.std.specs.Cmp.Lexicographic.{slice_cmp}
use Rattle.std.specs.Map.{keys_of}
use Rattle.std.specs.Ordering.{ordering_reverse}
use Rattle.std.specs.Str.{IsUtf8, is_utf8}
use Rattle.std.specs.declared.cmp.Ordering.TheVariants.{Less, Greater}
use Rattle.json.specs.Json as json
use Rattle.json.specs.Lex.{tokens}
use Rattle.json.specs.Print.{print}
use Rattle.serde_json.specs.Data.{Data, member, number, unsigned, object, put, members_depth}
use Rattle.serde_json.specs.Find.{as_number, as_object, as_u64}
use Rattle.serde_json.specs.Read.{of_json, read, max_depth}
use Rattle.serde_json.specs.View.{view, members_view}
use Rattle.serde_json.specs.Written.{members_have_float}
use Rattle.serde_json.specs.declared.value.Value.{Value}
use Rattle.host_trait.specs.Bytes.{bytes_cmp}
use Rattle.host_trait.proofs.Orders.{AreAbove, AreBelow, sorted_below}
use Rattle.host_trait.proofs.Places.{bytes_total}
use Rattle.host_trait.proofs.SortedLists.{split_at}
use Rattle.id_memory.specs.declared.id_row.IdRow.{IdRow}
use Rattle.switch_names.specs.Ids.{id_max}
use Rattle.id_memory.specs.Ids.{IsSortedList, names_of}
use Rattle.id_memory.specs.Json.{id_in, members_in, members_of, rows_in, rows_read, with_row}
use Rattle.id_memory.proofs.LineFeedLemmas.{tokens-fed}
use Rattle.id_memory.proofs.RowLemmas.{none_is_sorted}

abbrev pub Entry : Type 0
Entry = String Global × Value

-- ---- what is read

-- one more row
pub row_joins : (rows : List IdRow) (name : List ℕ) (i : ℕ) (id : Option ℕ) (more : Option (List IdRow)) → id ≡ Some i
    → option_map (λ rest. (rows ++ record { name = name; id = i } ∷ []) ++ rest) more ≡ option_map (λ rest. rows ++ rest) (with_row name id more)
row_joins rows name i id None is = sym (ap (λ o. option_map (λ rest. rows ++ rest) (with_row name o None)) is)
row_joins rows name i id (Some rest) is =
    ap Some (append_assoc rows (record { name = name; id = i } ∷ []) rest) ∙ sym (ap (λ o. option_map (λ rest. rows ++ rest) (with_row name o (Some rest))) is)

-- a value that is no id
pub no_rows : (rows : List IdRow) (name : List ℕ) (id : Option ℕ) (more : Option (List IdRow)) → id ≡ None → option_map (λ rest. rows ++ rest) (with_row name id more) ≡ None
no_rows rows name id more is = ap (λ o. option_map (λ rest. rows ++ rest) (with_row name o more)) is

-- the parts of a row before others
with_row_parts : (name : List ℕ) (id : Option ℕ) (more : Option (List IdRow)) (rows : List IdRow) → with_row name id more ≡ Some rows
    → (i : ℕ) × (rest : List IdRow) × (id ≡ Some i) × (more ≡ Some rest) × (rows ≡ record { name = name; id = i } ∷ rest)
with_row_parts name None more rows is = absurd (let none : None ≡ Some rows = is in cc)
with_row_parts name (Some i) None rows is = absurd (let none : None ≡ Some rows = is in cc)
with_row_parts name (Some i) (Some rest) rows is =
    (i, rest, refl, refl, let some : Some (record { name = name; id = i } ∷ rest) ≡ Some rows = is in let e : record { name = name; id = i } ∷ rest ≡ rows = cc in sym e)

bounded_id : (o : Option ℕ) (i : ℕ) → option_and_then (λ id. cond (nat_le id id_max) (Some id) None) o ≡ Some i → i ≤ id_max
bounded_id None i is = absurd (let none : None ≡ Some i = is in cc)
bounded_id (Some id) i is = elim (nat_le id id_max) as (λ b. nat_le id id_max ≡ b → cond b (Some id) None ≡ Some i → i ≤ id_max) [
  | true ↦ λ test e. let same : id ≡ i = cc in grind (arith, nat_tests)
  | false ↦ λ test e. absurd (let none : None ≡ Some i = e in cc)
] refl is

some_rows : (rows : List IdRow) → Some [] ≡ Some rows → rows ≡ []
some_rows rows is = let e : [] ≡ rows = cc in sym e

above_rows : (k : String Global) (es : List Entry) (rows : List IdRow) → AllByRecursion (λ y. string_cmp k y ≡ Less) (keys_of es) → rows_in (members_view es) ≡ Some rows
    → AreAbove (names_of rows) (string_bytes k)
above_rows k [] rows h is = subst (λ r. AreAbove (names_of r) (string_bytes k)) (sym (some_rows rows is)) tt
above_rows k (e ∷ es) rows h is =
    let parts = with_row_parts (string_bytes e.0) (id_in (view e.1)) (rows_in (members_view es)) rows is in
    subst (λ r. AreAbove (names_of r) (string_bytes k)) (sym parts.4) (h.0, above_rows k es parts.1 h.1 parts.3)

-- the rows that the members of an object are stand in order
pub rows_are_sorted : (es : List Entry) (rows : List IdRow) → IsStrictlySortedBy string_cmp (keys_of es) → rows_in (members_view es) ≡ Some rows → IsSortedList rows
unfolding IsStrictlySortedBy
rows_are_sorted [] rows s is = subst IsSortedList (sym (some_rows rows is)) none_is_sorted
rows_are_sorted (e ∷ es) rows s is =
    let parts = with_row_parts (string_bytes e.0) (id_in (view e.1)) (rows_in (members_view es)) rows is in
    let rest = rows_are_sorted es parts.1 s.1 parts.3 in
    subst IsSortedList (sym parts.4) (record {
      sorted = (above_rows e.0 es parts.1 s.0 parts.3, rest.sorted);
      bounded = (bounded_id (option_and_then as_u64 (as_number (view e.1))) parts.0 parts.2, rest.bounded);
    })

-- ---- what is written

-- a row after those before it
pub put_last : (done : List IdRow) (row : IdRow) → AreBelow (names_of done) row.name → put row.name (number (unsigned row.id)) (members_of done) ≡ members_of (done ++ row ∷ [])
put_last [] row h = refl
put_last (first ∷ done) row h =
    let above : slice_cmp nat_cmp row.name first.name ≡ Greater = bytes_total.antisymm row.name first.name ∙ ap ordering_reverse h.0 in
    rw above (ap (member first.name (number (unsigned first.id))) (put_last done row h.1))

-- the row at a place after those before it
pub put_next :
    (rows : List IdRow) (i : ℕ) (row : IdRow) → IsStrictlySortedBy bytes_cmp (names_of rows) → i < length rows → row ≡ get_or rows i row →
    put row.name (number (unsigned row.id)) (members_of (take i rows)) ≡ members_of (take (i + 1) rows)
put_next rows i row sorted lt is =
    let split : rows ≡ take i rows ++ row ∷ drop (suc i) rows = split_at rows i row (slice_get-get_or rows i row lt ∙ ap Some (sym is)) in
    let names = subst (IsStrictlySortedBy bytes_cmp) (ap names_of split ∙ map-append (λ (r : IdRow). r.name) (take i rows) (row ∷ drop (suc i) rows)) sorted in
    put_last (take i rows) row (sorted_below (names_of (take i rows)) row.name (names_of (drop (suc i) rows)) names)
    ∙ ap members_of (ap (λ r. take i rows ++ r ∷ []) is ∙ sym (take_more rows i row lt))

pub no_float : (rows : List IdRow) → members_have_float (members_of rows) ≡ false
no_float [] = refl
no_float (row ∷ rows) = no_float rows

pub no_depth : (rows : List IdRow) → members_depth (members_of rows) ≡ 0
no_depth [] = refl
no_depth (row ∷ rows) = ap (λ n. max 0 n) (no_depth rows)

-- the rows of their members
pub rows_again : (rows : List IdRow) → AllByRecursion (λ row. row.id ≤ id_max) rows → rows_in (members_of rows) ≡ Some rows
rows_again [] h = refl
rows_again (row ∷ rows) h =
    let test : nat_le row.id id_max ≡ true = grind (arith, nat_tests) in
    ap₂ (λ b more. with_row row.name (cond b (Some row.id) None) more) test (rows_again rows h.1)

-- ---- bytes and values

-- the members of bytes that are a value
pub members_are : (bytes : List ℕ) (value : Data) → IsUtf8 bytes → read bytes ≡ Some value → members_in bytes ≡ as_object value
members_are bytes value text is = ap (λ b. cond b (option_and_then as_object (read bytes)) None) (is_utf8-from_IsUtf8 bytes text) ∙ ap (option_and_then as_object) is

-- bytes that are no value have no members
pub no_members_are : (bytes : List ℕ) → (IsUtf8 bytes → read bytes ≡ None) → members_in bytes ≡ None
no_members_are bytes none = elim (is_utf8 bytes) as (λ b. is_utf8 bytes ≡ b → cond b (option_and_then as_object (read bytes)) None ≡ None) [
  | true ↦ λ text. ap (option_and_then as_object) (none (IsUtf8-from_is_utf8 bytes text))
  | false ↦ λ text. refl
] refl

-- a text without blanks is the same value with a line feed after it
read_fed : (s : List ℕ) → s ≡ print (tokens s) → read (s ++ 10 ∷ []) ≡ read s
read_fed s is = ap (λ ts. option_and_then of_json (option_and_then (λ p. json.if_last p.0 p.1) (json.value max_depth ts))) (tokens-fed s is)

-- the text of rows is read as those rows
pub text_reads : (rows : List IdRow) (s : List ℕ) → AllByRecursion (λ row. row.id ≤ id_max) rows → IsUtf8 (s ++ 10 ∷ []) → s ≡ print (tokens s) → read s ≡ Some (object (members_of rows))
    → rows_read (s ++ 10 ∷ []) ≡ Some rows
text_reads rows s bounded text compact is =
    ap (option_and_then rows_in) (members_are (s ++ 10 ∷ []) (object (members_of rows)) text (read_fed s compact ∙ is)) ∙ rows_again rows bounded
