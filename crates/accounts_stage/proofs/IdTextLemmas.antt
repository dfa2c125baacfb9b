-- The names of ids that are read of JSON are UTF-8.
use Rattle.std.proofs.Common.{◌≡◌, ℕ, ◌≤◌, ◌&&◌, Bool, true, false, cond, List, [], ◌∷◌, map, nat_le, Option, None, Some, IfSome, option_map, option_and_then, refl, sym, ap, subst, ◌∙◌}
use Rattle.std.proofs.lemmas.Bool.{and_from, and_parts, leb-true}
use Rattle.std.proofs.lemmas.Str.{IsUtf8-from_is_utf8}
use Rattle.std.specs.FinMap.{find, get-from_entries, keys}
use Rattle.std.specs.List.{AllByRecursion, list_all}
use Rattle.std.specs.Ordering.{eq_by_cmp}
use Rattle.std.specs.Str.{is_utf8}
use Rattle.serde_json.specs.Data as values
use Rattle.serde_json.specs.Data.{Data, Items, Members}
use Rattle.serde_json.specs.Find.{as_number, as_object, as_u64}
use Rattle.serde_json.specs.Read.{read}
use Rattle.host_trait.specs.Bytes.{bytes_cmp}
use Rattle.host_trait.proofs.Places.{bytes_total}
use Rattle.id_memory.specs.declared.id_row.IdRow.{IdRow}
use Rattle.host_trait.specs.Ids.{Ids}
use Rattle.switch_names.specs.Ids.{id_max}
use Rattle.id_memory.specs.Ids.{AreIds, ids_of, names_of}
use Rattle.id_memory.specs.Json.{id_in, ids_read, rows_in, rows_read, with_row}
use Rattle.switch_names.specs.Names.{Name}
use Rattle.accounts_stage.proofs.JsonTextLemmas.{are_member_texts, is_data_text, read_texts}
use Rattle.accounts_stage.proofs.OrderLemmas.{all_keys}

-- rows of ids that are read
record AreGoodRows (rows : List IdRow) : Type 0 where
  names : list_all is_utf8 (names_of rows) ≡ true
  bounded : AllByRecursion (λ (row : IdRow). row.id ≤ id_max) rows

id_bounded : (o : Option ℕ) → IfSome (option_and_then (λ id. cond (nat_le id id_max) (Some id) None) o) (λ id. id ≤ id_max)
id_bounded None = tt
id_bounded (Some id) = by (nat_le id id_max) refl
  where
    by : (b : Bool) → nat_le id id_max ≡ b → IfSome (cond b (Some id) None) (λ i. i ≤ id_max)
    by true is = leb-true id id_max is
    by false is = tt

rows_good : (ms : Members) → are_member_texts ms ≡ true → IfSome (rows_in ms) AreGoodRows
rows_good values.no_members all = record { names = refl; bounded = tt }
rows_good (values.member k d ms) all =
    let key = and_parts (is_utf8 k) (is_data_text d && are_member_texts ms) all in
    let rest = and_parts (is_data_text d) (are_member_texts ms) key.1 in
    by (id_in d) (id_bounded (option_and_then as_u64 (as_number d))) (rows_in ms) key.0 (rows_good ms rest.1)
  where
    by : (id : Option ℕ) → IfSome id (λ i. i ≤ id_max) → (rows : Option (List IdRow)) → is_utf8 k ≡ true → IfSome rows AreGoodRows → IfSome (with_row k id rows) AreGoodRows
    by None small rows key good = tt
    by (Some i) small None key good = tt
    by (Some i) small (Some rows) key good = record { names = and_from _ _ key good.names; bounded = (small, good.bounded) }

read_rows : (bytes : List ℕ) → IfSome (rows_read bytes) AreGoodRows
read_rows bytes = by (is_utf8 bytes) refl
  where
    of_members : (o : Option Members) → IfSome o (λ ms. are_member_texts ms ≡ true) → IfSome (option_and_then rows_in o) AreGoodRows
    of_members None is = tt
    of_members (Some ms) is = rows_good ms is

    of_data : (d : Data) → is_data_text d ≡ true → IfSome (as_object d) (λ ms. are_member_texts ms ≡ true)
    of_data values.null is = tt
    of_data (values.boolean b) is = tt
    of_data (values.number n) is = tt
    of_data (values.string s) is = tt
    of_data (values.array ds) is = tt
    of_data (values.object ms) is = is

    of_read : (o : Option Data) → IfSome o (λ d. is_data_text d ≡ true) → IfSome (option_and_then as_object o) (λ ms. are_member_texts ms ≡ true)
    of_read None is = tt
    of_read (Some d) is = of_data d is

    by : (b : Bool) → is_utf8 bytes ≡ b → IfSome (option_and_then rows_in (cond b (option_and_then as_object (read bytes)) None)) AreGoodRows
    by true utf8 = of_members (option_and_then as_object (read bytes)) (of_read (read bytes) (read_texts bytes (IsUtf8-from_is_utf8 bytes utf8)))
    by false utf8 = tt

abbrev pair_of : IdRow → Name × ℕ
pair_of row = (row.name, row.id)

found_bounded : (rows : List IdRow) (name : Name) → AllByRecursion (λ (row : IdRow). row.id ≤ id_max) rows → IfSome (find bytes_cmp name (map pair_of rows)) (λ id. id ≤ id_max)
found_bounded [] name all = tt
found_bounded (row ∷ rows) name all = by (eq_by_cmp bytes_cmp name row.name) (found_bounded rows name all.1)
  where
    by : (b : Bool) → IfSome (find bytes_cmp name (map pair_of rows)) (λ id. id ≤ id_max) → IfSome (cond b (Some row.id) (find bytes_cmp name (map pair_of rows))) (λ id. id ≤ id_max)
    by true later = all.0
    by false later = later

names_are : (rows : List IdRow) → map (λ (e : Name × ℕ). e.0) (map pair_of rows) ≡ names_of rows
names_are [] = refl
names_are (row ∷ rows) = ap (λ rest. row.name ∷ rest) (names_are rows)

-- the ids that are read are ids, and their names UTF-8
pub record AreReadIds (ids : Ids) : Type 0 where
  pub bounded : AreIds ids
  pub names : list_all is_utf8 (keys ids) ≡ true

pub ids_are_read : (bytes : List ℕ) (ids : Ids) → ids_read bytes ≡ Some ids → AreReadIds ids
ids_are_read bytes ids is = by (rows_read bytes) (read_rows bytes) is
  where
    by : (o : Option (List IdRow)) → IfSome o AreGoodRows → option_map ids_of o ≡ Some ids → AreReadIds ids
    by None good is = absurd (cc)
    by (Some rows) good is = subst AreReadIds (let same : ids_of rows ≡ ids = cc in same) (record {
      bounded = λ name. subst (λ o. IfSome o (λ id. id ≤ id_max)) (sym (get-from_entries bytes_total (map pair_of rows) name)) (found_bounded rows name good.bounded);
      names = all_keys bytes_total is_utf8 (map pair_of rows) (ap (list_all is_utf8) (names_are rows) ∙ good.names);
    })
