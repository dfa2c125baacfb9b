-- Ids by name, as they are remembered.
use Rattle.std.proofs.Common.{◌≡◌, ℕ, ◌+◌, ◌<◌, Bool, true, false, cond, List, [], ◌∷◌, length, get_or, drop, map, Option, None, Some, IfSome, refl, sym, ap, subst, ◌∙◌, zero, suc, arith}
use Rattle.std.proofs.lemmas.List.{drop_more}
use Rattle.std.specs.BTreeMap as tree
use Rattle.std.specs.BTreeMap.{insert_entry, is_at}
use Rattle.std.specs.FinMap.{empty, entries, get, get-empty, get-entries}
use Rattle.std.specs.FinMap as finmap
use Rattle.std.specs.List.{AllByRecursion}
use Rattle.std.specs.List.Sorted.{IsStrictlySortedBy}
use Rattle.std.specs.Map.{keys_of, lookup, values_of}
use Rattle.std.specs.Option.{option_or}
use Rattle.std.specs.Ordering.{is_eq, match_ordering}
use Rattle.std.specs.declared.cmp.Ordering.{Ordering}
use Rattle.std.specs.declared.cmp.Ordering.TheVariants.{Less, Equal, Greater}
use Rattle.host_trait.specs.Bytes.{bytes_cmp}
use Rattle.host_trait.proofs.KeyOrder.{keys_sorted}
use Rattle.host_trait.proofs.NameOrder.{name_exact, name_itself}
use Rattle.switch_names.proofs.Names.{name_turned}
use Rattle.switch_names.proofs.Outcomes.{option_map_cond, option_or_none}
use Rattle.switch_names.specs.Names.{Name, is_name}
use Rattle.account_text.specs.Order.{row_named}
use Rattle.host_trait.specs.Ids.{Ids}
use Rattle.id_memory.specs.Ids.{AreIds, rows_of}
use Rattle.id_memory.specs.declared.id_row.IdRow.{IdRow}
use Rattle.users_merge.specs.ByName.{row_ids}
use Rattle.users_merge.specs.Given.{IsId}

-- ---- ids that are inserted

option_cond : (b : Bool) (x : ℕ) (o p : Option ℕ) → cond b (Some x) (option_or o p) ≡ option_or (cond b (Some x) o) p
option_cond true x o p = refl
option_cond false x o p = refl

-- rows from the last on give their ids
pub inserted_more :
    {Row : Type 0} (name_of : Row → Name) (id_of : Row → ℕ) (rows : List Row) (at : ℕ) (row : Row) (key name : Name) (id : ℕ) (old new before : Option ℕ) → at < length rows → row ≡ get_or rows at row →
    key ≡ name_of row → id ≡ id_of row → new ≡ cond (is_at (bytes_cmp key) name) (Some id) old → old ≡ option_or (row_ids name_of id_of (drop (at + 1) rows) name) before →
    new ≡ option_or (row_ids name_of id_of (drop at rows) name) before
inserted_more {Row} name_of id_of rows at row key name id old new before inside is named numbered grown was =
    grown ∙ (λ i. cond (is_name (named i) name) (Some (numbered i)) (was i))
    ∙ ap (λ b. cond b (Some (id_of row)) (option_or (row_ids name_of id_of (drop (at + 1) rows) name) before)) (name_turned (name_of row) name)
    ∙ option_cond (is_name name (name_of row)) (id_of row) (row_ids name_of id_of (drop (at + 1) rows) name) before
    ∙ ap (λ o. option_or o before)
    (sym (ap (λ (rest : List Row). row_ids name_of id_of rest name) (drop_more rows at row inside ∙ ap (λ r. r ∷ drop (at + 1) rows) (sym is))
    ∙ option_map_cond id_of (is_name name (name_of row)) row (row_named name_of (drop (at + 1) rows) name)))

-- what holds of the ids holds of those with one more
pub inserted_bounded : (es : List (Name × ℕ)) (key : Name) (id : ℕ) → IsId id → AllByRecursion IsId (values_of es) → AllByRecursion IsId (values_of (insert_entry bytes_cmp es key id))
inserted_bounded [] key id is all = (is, tt)
inserted_bounded (e ∷ es) key id is all = by (bytes_cmp key e.0) (inserted_bounded es key id is all.1)
  where
    by : (o : Ordering) → AllByRecursion IsId (values_of (insert_entry bytes_cmp es key id)) →
        AllByRecursion IsId (values_of (match_ordering o ((key, id) ∷ e ∷ es) ((e.0, id) ∷ es) (e ∷ insert_entry bytes_cmp es key id)))
    by Less later = (is, all)
    by Equal later = (is, all.1)
    by Greater later = (all.0, later)

pub id_of_at : {Row : Type 0} (id_of : Row → ℕ) (rows : List Row) (at : ℕ) (row : Row) (id : ℕ) → AllByRecursion IsId (map id_of rows) → at < length rows → row ≡ get_or rows at row → id ≡ id_of row → IsId id
id_of_at id_of rows at row id all inside is numbered = subst IsId (sym numbered) (place id_of rows at row all inside is)
  where
    place : {Row : Type 0} (id_of : Row → ℕ) (rows : List Row) (at : ℕ) (row : Row) → AllByRecursion IsId (map id_of rows) → at < length rows → row ≡ get_or rows at row → IsId (id_of row)
    place id_of [] at row all inside is = absurd (omega arith)
    place id_of (first ∷ rows) zero row all inside is = subst (λ r. IsId (id_of r)) (sym is) all.0
    place id_of (first ∷ rows) (suc at) row all inside is = place id_of rows at row all.1 (omega arith) is

-- ---- ids that are remembered already

rows_found : (es : List (Name × ℕ)) (name : Name) → row_ids (λ (row : IdRow). row.name) (λ (row : IdRow). row.id) (map (λ (e : Name × ℕ). record { name = e.0; id = e.1 }) es) name ≡ finmap.find bytes_cmp name es
rows_found [] name = refl
rows_found (e ∷ es) name =
    option_map_cond (λ (row : IdRow). row.id) (is_name name e.0) (record { name = e.0; id = e.1 }) (row_named (λ (row : IdRow). row.name) (map (λ (x : Name × ℕ). record { name = x.0; id = x.1 }) es) name)
    ∙ ap (cond (is_name name e.0) (Some e.1)) (rows_found es name)

pub known_found : (known : Ids) (name : Name) → row_ids (λ (row : IdRow). row.name) (λ (row : IdRow). row.id) (rows_of known) name ≡ get known name
known_found known name = rows_found (entries known) name ∙ sym (get-entries known name)

above_lack : (name : Name) (es : List (Name × ℕ)) → AllByRecursion (λ other. bytes_cmp name other ≡ Less) (keys_of es) → lookup (is_at (bytes_cmp name)) es ≡ None
above_lack name [] above = refl
above_lack name (e ∷ es) above = ap (λ b. cond b (Some e.1) (lookup (is_at (bytes_cmp name)) es)) (ap is_eq above.0) ∙ above_lack name es above.1

-- each of the rows is an id
entry_bounded : (es : List (Name × ℕ)) → IsStrictlySortedBy bytes_cmp (map (λ (e : Name × ℕ). e.0) es) → ((name : Name) → IfSome (finmap.find bytes_cmp name es) IsId) → AllByRecursion IsId (map (λ (row : IdRow). row.id) (map (λ (e : Name × ℕ). record { name = e.0; id = e.1 }) es))
unfolding IsStrictlySortedBy
entry_bounded [] sorted each = tt
entry_bounded (e ∷ es) sorted each = (
  subst (λ b. IfSome (cond b (Some e.1) (finmap.find bytes_cmp e.0 es)) IsId) (name_itself e.0) (each e.0),
  entry_bounded es sorted.1 (λ name. later name (is_name name e.0) refl),
)
  where
    lack : (fs : List (Name × ℕ)) → AllByRecursion (λ other. bytes_cmp e.0 other ≡ Less) (map (λ (f : Name × ℕ). f.0) fs) → finmap.find bytes_cmp e.0 fs ≡ None
    lack [] above = refl
    lack (f ∷ fs) above = ap (λ b. cond b (Some f.1) (finmap.find bytes_cmp e.0 fs)) (ap is_eq above.0) ∙ lack fs above.1

    later : (name : Name) (b : Bool) → is_name name e.0 ≡ b → IfSome (finmap.find bytes_cmp name es) IsId
    later name true is = subst (λ o. IfSome o IsId) (sym (ap (λ n. finmap.find bytes_cmp n es) (name_exact name e.0 is) ∙ lack es sorted.0)) tt
    later name false is = subst (λ b. IfSome (cond b (Some e.1) (finmap.find bytes_cmp name es)) IsId) is (each name)

pub known_bounded : (known : Ids) → AreIds known → AllByRecursion IsId (map (λ (row : IdRow). row.id) (rows_of known))
known_bounded known are =
    entry_bounded (entries known) (keys_sorted known) (λ name. subst (λ o. IfSome o IsId) (get-entries known name) (are name))

-- ---- ids that are put in order

-- the first of what is left goes over to what is made
pub made_more : (rest all : List (Name × ℕ)) (key name : Name) (id : ℕ) (old new : Option ℕ) → AllByRecursion (λ other. bytes_cmp key other ≡ Less) (keys_of rest) → new ≡ cond (is_at (bytes_cmp name) key) (Some id) old →
    option_or (lookup (is_at (bytes_cmp name)) ((key, id) ∷ rest)) old ≡ lookup (is_at (bytes_cmp name)) all → option_or (lookup (is_at (bytes_cmp name)) rest) new ≡ lookup (is_at (bytes_cmp name)) all
made_more rest all key name id old new above grown was = by (is_name name key) refl
  where
    by : (b : Bool) → is_name name key ≡ b → option_or (lookup (is_at (bytes_cmp name)) rest) new ≡ lookup (is_at (bytes_cmp name)) all
    by true is =
        ap (λ o. option_or o new) (ap (λ n. lookup (is_at (bytes_cmp n)) rest) (name_exact name key is) ∙ above_lack key rest above)
        ∙ grown ∙ ap (λ b. cond b (Some id) old) is ∙ sym (ap (λ b. option_or (cond b (Some id) (lookup (is_at (bytes_cmp name)) rest)) old) is) ∙ was
    by false is =
        ap (option_or (lookup (is_at (bytes_cmp name)) rest)) (grown ∙ ap (λ b. cond b (Some id) old) is)
        ∙ sym (ap (λ b. option_or (cond b (Some id) (lookup (is_at (bytes_cmp name)) rest)) old) is) ∙ was

pub none_made : (rest all : List (Name × ℕ)) (name : Name) (made : Ids) → rest ≡ all → made ≡ empty → option_or (lookup (is_at (bytes_cmp name)) rest) (get made name) ≡ lookup (is_at (bytes_cmp name)) all
none_made rest all name made same none =
    (λ i. option_or (lookup (is_at (bytes_cmp name)) (same i)) (get (none i) name)) ∙ ap (option_or (lookup (is_at (bytes_cmp name)) all)) (get-empty bytes_cmp name) ∙ option_or_none (lookup (is_at (bytes_cmp name)) all)

module _ (rest more : List (Name × ℕ)) (key : Name) (id : ℕ) (step : rest ≡ (key, id) ∷ more) where
  pub first_bounded : AllByRecursion IsId (values_of rest) → IsId id
  first_bounded all = (subst (λ es. AllByRecursion IsId (values_of es)) step all).0

  pub rest_bounded : AllByRecursion IsId (values_of rest) → AllByRecursion IsId (values_of more)
  rest_bounded all = (subst (λ es. AllByRecursion IsId (values_of es)) step all).1

  pub sorted_first : IsStrictlySortedBy bytes_cmp (keys_of rest) → AllByRecursion (λ other. bytes_cmp key other ≡ Less) (keys_of more)
  unfolding IsStrictlySortedBy
  sorted_first sorted = (subst (λ es. IsStrictlySortedBy bytes_cmp (keys_of es)) step sorted).0

  pub sorted_rest : IsStrictlySortedBy bytes_cmp (keys_of rest) → IsStrictlySortedBy bytes_cmp (keys_of more)
  unfolding IsStrictlySortedBy
  sorted_rest sorted = (subst (λ es. IsStrictlySortedBy bytes_cmp (keys_of es)) step sorted).1

pub no_values : (es : List (Name × ℕ)) → es ≡ [] → AllByRecursion IsId (values_of es)
no_values es none = subst (λ (fs : List (Name × ℕ)). AllByRecursion IsId (values_of fs)) (sym none) tt

-- ids that are inserted first and then others
pub remembered :
    (known : Ids) (rows : List IdRow) (name : Name) (o : Option ℕ) (start between : tree.BTreeMap Name ℕ) → rows ≡ rows_of known → start.entries ≡ [] →
    tree.get bytes_cmp between name ≡ option_or (row_ids (λ row. row.name) (λ row. row.id) rows name) (tree.get bytes_cmp start name) → option_or o (tree.get bytes_cmp between name) ≡ option_or o (get known name)
remembered known rows name o start between same none is =
    ap (option_or o)
    (is ∙ (λ i. option_or (row_ids (λ (row : IdRow). row.name) (λ (row : IdRow). row.id) (same i) name) (lookup (is_at (bytes_cmp name)) (none i)))
    ∙ option_or_none (row_ids (λ (row : IdRow). row.name) (λ (row : IdRow). row.id) (rows_of known) name) ∙ known_found known name)
