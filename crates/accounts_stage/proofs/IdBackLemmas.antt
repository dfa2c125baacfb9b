-- Ids are read back where they are written.
use Rattle.std.proofs.Common.{◌≡◌, ℕ, suc, max, ◌≤◌, ◌^◌, ◌<◌, Bool, true, false, cond, List, [], ◌∷◌, ◌++◌, append-nil, append_assoc, decimal, map, Option, Some, option_map, option_and_then, IsUtf8, refl, sym, ap, subst, ◌∙◌, arith}
use Rattle.std.proofs.lemmas.Bool.{and_parts}
use Rattle.std.proofs.lemmas.Fmt.{IsAscii-decimal}
use Rattle.std.proofs.lemmas.List.{map-append}
use Rattle.std.proofs.lemmas.Str.{IsUtf8-append, IsUtf8-from_ascii, IsUtf8-from_is_utf8, IsUtf8-nil}
use Rattle.std.specs.FinMap.{entries, from_entries, get-entries, get-from_entries, keys}
use Rattle.std.specs.List.{AllByRecursion, list_all}
use Rattle.std.specs.List.Sorted.{IsStrictlySortedBy}
use Rattle.std.specs.Str.{is_utf8}
use Rattle.json.specs.Json as json
use Rattle.json.specs.Lex.{tokens}
use Rattle.json.specs.Print.{ArePrintable, print, print_from, quoted}
use Rattle.json.specs.Token as token
use Rattle.json.specs.Token.{Token}
use Rattle.json.specs.Tree as tree
use Rattle.json.proofs.Printed.Decimals.{IsNumber-decimal}
use Rattle.json.proofs.Printed.Tokens.{tokens-print}
use Rattle.json.proofs.Printed.Trees.{value-json_tokens}
use Rattle.json.proofs.Printed.Utf8.{IsUtf8-quoted}
use Rattle.serde_json.specs.Data.{Data, Num, number, object, put}
use Rattle.serde_json.specs.Read.{max_depth, of_json, of_members, read}
use Rattle.serde_json.specs.Written.{compact_text, members_text}
use Rattle.serde_json.proofs.Numbers.{number_of-decimal}
use Rattle.host_trait.specs.Bytes.{bytes_cmp}
use Rattle.host_trait.proofs.KeyOrder.{keys_sorted}
use Rattle.host_trait.proofs.Orders.{sorted_below}
use Rattle.host_trait.proofs.Places.{alike, bytes_total}
use Rattle.id_memory.specs.declared.id_row.IdRow.{IdRow}
use Rattle.host_trait.specs.Ids.{Ids}
use Rattle.switch_names.specs.Ids.{id_max}
use Rattle.id_memory.specs.Ids.{AreIds, ids_of, names_of, rows_of}
use Rattle.id_memory.specs.Json.{ids_read, ids_text, members_of}
use Rattle.id_memory.proofs.MemberLemmas.{put_last, text_reads}
use Rattle.switch_names.specs.Names.{Name}
use Rattle.users_merge.specs.Given.{IsId}
use Rattle.users_merge.proofs.RememberedLemmas.{known_bounded}
use Rattle.accounts_stage.proofs.TextLemmas.{ascii_then}

abbrev AreBounded : List IdRow → Type 0
AreBounded rows = AllByRecursion (λ (row : IdRow). row.id ≤ id_max) rows

small : (id : ℕ) → id ≤ id_max → id < 2 ^ 64
small id bounded = omega arith

-- ---- the value that is written

-- the JSON of rows
abbrev json_of : List IdRow → json.Members
json_of [] = json.no_members
json_of (row ∷ rows) = json.member row.name (json.number (decimal row.id)) (json_of rows)

-- the members of the JSON of rows are theirs
members_are : (done rows : List IdRow) → IsStrictlySortedBy bytes_cmp (names_of (done ++ rows)) → AreBounded rows → of_members (json_of rows) (members_of done) ≡ Some (members_of (done ++ rows))
members_are done [] sorted bounded = ap (λ all. Some (members_of all)) (sym (append-nil done))
members_are done (row ∷ rows) sorted bounded =
    let named = subst (IsStrictlySortedBy bytes_cmp) (map-append (λ (r : IdRow). r.name) done (row ∷ rows)) sorted in
    ap (λ (o : Option Num). option_and_then (λ (d : Data). of_members (json_of rows) (put row.name d (members_of done))) (option_map number o)) (number_of-decimal row.id (small row.id bounded.0))
    ∙ ap (of_members (json_of rows)) (put_last done row (sorted_below (names_of done) row.name (names_of rows) named))
    ∙ members_are (done ++ row ∷ []) rows (subst (λ all. IsStrictlySortedBy bytes_cmp (names_of all)) (sym (append_assoc done (row ∷ []) rows)) sorted) bounded.1
    ∙ ap (λ all. Some (members_of all)) (append_assoc done (row ∷ []) rows)

flat : (rows : List IdRow) → tree.members_depth (json_of rows) ≡ 0
flat [] = refl
flat (row ∷ rows) = ap (λ n. max 0 n) (flat rows)

-- ---- its text

printable : (rows : List IdRow) → AreBounded rows → ArePrintable (tree.members_tokens (json_of rows))
unfolding ArePrintable
printable [] bounded = (tt, tt)
printable (row ∷ rows) bounded = (tt, (IsNumber-decimal row.id (small row.id bounded.0), printable rows bounded.1))

all_printable : (rows : List IdRow) → AreBounded rows → ArePrintable (token.begin_object ∷ tree.members_tokens (json_of rows))
unfolding ArePrintable
all_printable rows bounded = (tt, printable rows bounded)

prints : (later : Bool) (rows : List IdRow) → members_text later (members_of rows) ≡ print_from later (tree.members_tokens (json_of rows))
unfolding print_from
prints true [] = refl
prints false [] = refl
prints true (row ∷ rows) =
    ap (λ rest. 44 ∷ (quoted row.name ++ 58 ∷ (decimal row.id ++ rest))) (prints true rows)
    ∙ ap (λ rest. 44 ∷ rest) (sym (append_assoc (quoted row.name) (58 ∷ []) (decimal row.id ++ print_from true (tree.members_tokens (json_of rows)))))
prints false (row ∷ rows) =
    ap (λ rest. quoted row.name ++ 58 ∷ (decimal row.id ++ rest)) (prints true rows)
    ∙ sym (append_assoc (quoted row.name) (58 ∷ []) (decimal row.id ++ print_from true (tree.members_tokens (json_of rows))))

after_comma : (later : Bool) (text : List ℕ) → IsUtf8 text → IsUtf8 (cond later (44 ∷ []) [] ++ text)
after_comma true text u = ascii_then 44 text (omega arith) u
after_comma false text u = u

text_utf8 : (later : Bool) (rows : List IdRow) → AreBounded rows → list_all is_utf8 (names_of rows) ≡ true → IsUtf8 (members_text later (members_of rows))
text_utf8 later [] bounded names = ascii_then 125 [] (omega arith) IsUtf8-nil
text_utf8 later (row ∷ rows) bounded names =
    let parts = and_parts (is_utf8 row.name) (list_all is_utf8 (names_of rows)) names in
    let rest = IsUtf8-append (quoted row.name) (58 ∷ (decimal row.id ++ members_text true (members_of rows))) (IsUtf8-quoted row.name (IsUtf8-from_is_utf8 row.name parts.0))
    (ascii_then 58 (decimal row.id ++ members_text true (members_of rows)) (omega arith)
    (IsUtf8-append (decimal row.id) (members_text true (members_of rows)) (IsUtf8-from_ascii (decimal row.id) (IsAscii-decimal row.id (small row.id bounded.0))) (text_utf8 true rows bounded.1 parts.1))) in
    after_comma later (quoted row.name ++ 58 ∷ (decimal row.id ++ members_text true (members_of rows))) rest

-- ---- read back

module _ (ids : Ids) (are : AreIds ids) (names : list_all is_utf8 (keys ids) ≡ true) where
  abbrev all : List IdRow
  all = rows_of ids

  abbrev text : List ℕ
  text = compact_text (object (members_of all))

  abbrev written : List Token
  written = token.begin_object ∷ tree.members_tokens (json_of all)

  unmapped : (rows : List IdRow) → AllByRecursion IsId (map (λ (row : IdRow). row.id) rows) → AreBounded rows
  unmapped [] bounded = tt
  unmapped (row ∷ rows) bounded = (bounded.0, unmapped rows bounded.1)

  bounded : AreBounded all
  bounded = unmapped all (known_bounded ids are)

  names_are : (es : List (Name × ℕ)) → names_of (map (λ (e : Name × ℕ). record { name = e.0; id = e.1 }) es) ≡ map (λ (e : Name × ℕ). e.0) es
  names_are [] = refl
  names_are (e ∷ es) = ap (λ rest. e.0 ∷ rest) (names_are es)

  sorted : IsStrictlySortedBy bytes_cmp (names_of all)
  sorted = subst (IsStrictlySortedBy bytes_cmp) (sym (names_are (entries ids))) (keys_sorted ids)

  text_is : text ≡ print written
  unfolding print_from
  text_is = ap (λ rest. 123 ∷ rest) (prints false all)

  tokens_are : tokens text ≡ written
  tokens_are = ap tokens text_is ∙ tokens-print written (all_printable all bounded)

  text_reads_back : read text ≡ Some (object (members_of all))
  text_reads_back =
      ap (λ ts. option_and_then of_json (option_and_then (λ p. json.if_last p.0 p.1) (json.value max_depth ts))) (tokens_are ∙ sym (append-nil written))
      ∙ ap (λ o. option_and_then of_json (option_and_then (λ p. json.if_last p.0 p.1) o)) (value-json_tokens (json.object (json_of all)) max_depth [] (subst (λ n. suc n ≤ max_depth) (sym (flat all)) (omega arith)))
      ∙ ap (option_map object) (members_are [] all sorted bounded)

  round : (es : List (Name × ℕ)) → map (λ (row : IdRow). (row.name, row.id)) (map (λ (e : Name × ℕ). record { name = e.0; id = e.1 }) es) ≡ es
  round [] = refl
  round (e ∷ es) = ap (λ rest. e ∷ rest) (round es)

  same_ids : ids_of all ≡ ids
  same_ids = ap (λ es. from_entries {R = bytes_cmp} es) (round (entries ids)) ∙ alike _ _ (λ name. get-from_entries bytes_total (entries ids) name ∙ sym (get-entries ids name))

  -- ids are read back
  pub ids_back : ids_read (ids_text ids) ≡ Some ids
  ids_back =
      ap (option_map ids_of)
      (text_reads all text bounded
      (IsUtf8-append text (10 ∷ []) (ascii_then 123 (members_text false (members_of all)) (omega arith) (text_utf8 false all bounded (ap (list_all is_utf8) (names_are (entries ids)) ∙ names))) (ascii_then 10 [] (omega arith) IsUtf8-nil))
      (text_is ∙ ap print (sym tokens_are)) text_reads_back)
      ∙ ap Some same_ids
