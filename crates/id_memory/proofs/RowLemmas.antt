-- Rows in order, and the ids that they give.
use Rattle.std.proofs.Common.{◌≡◌, ℕ, ◌<◌, ◌≤◌, Bool, true, false, cond, List, [], ◌∷◌, ◌++◌, length, get_or, take, drop, set, map, Option, None, Some, IfSome, refl, sym, ap, ◌∙◌, subst, suc, arith}
use Rattle.std.proofs.lemmas.List.{map-append, length-take-le, take-append-drop, set_at}
use Rattle.std.proofs.lemmas.Option.{get_or_from_slice_get, slice_get_within}
use Rattle.std.specs.BTreeMap.{is_at}
use Rattle.std.specs.FinMap.{get, insert}
use Rattle.std.specs.List.{AllByRecursion, slice_get}
use Rattle.std.specs.List.Sorted.{IsStrictlySortedBy}
use Rattle.std.specs.Ordering.{eq_by_cmp}
use Rattle.host_trait.specs.Bytes.{bytes_cmp}
use Rattle.host_trait.proofs.Orders.{AreAbove, AreBelow, none_sorted}
use Rattle.host_trait.proofs.Places.{found, given, ordered_entries}
use Rattle.host_trait.proofs.SortedLists as lists
use Rattle.host_trait.proofs.SortedLists.{split_at}
use Rattle.id_memory.specs.declared.id_row.IdRow.{IdRow}
use Rattle.switch_names.specs.Ids.{id_max}
use Rattle.id_memory.specs.Ids.{AreIds, IsPlaceFor, IsSortedList, ids_of, names_of, rows_of}
use Rattle.switch_names.proofs.Lists.{all_join, all_front, all_back}

abbrev pub pair_of : IdRow → List ℕ × ℕ
pair_of row = (row.name, row.id)

abbrev name_in : IdRow → List ℕ
name_in row = row.name

abbrev id_in : IdRow → ℕ
id_in row = row.id

-- the id that rows give a name
abbrev look : List IdRow → List ℕ → Option ℕ
look rows q = lists.look name_in id_in rows q

unpaired : (rows : List IdRow) → map (λ (e : List ℕ × ℕ). record { name = e.0; id = e.1 }) (map pair_of rows) ≡ rows
unpaired [] = refl
unpaired (row ∷ rows) = ap (λ rest. row ∷ rest) (unpaired rows)

-- rows in order are the rows of their ids
pub rows_are : (rows : List IdRow) → IsSortedList rows → rows ≡ rows_of (ids_of rows)
rows_are rows is =
    sym (ap (map (λ (e : List ℕ × ℕ). record { name = e.0; id = e.1 })) (ordered_entries (map pair_of rows) (subst (IsStrictlySortedBy bytes_cmp) (sym (lists.keys_are_names name_in id_in rows)) is.sorted))
    ∙ unpaired rows)

bounded_at : (rows : List IdRow) → AllByRecursion (λ row. row.id ≤ id_max) rows → (q : List ℕ) → IfSome (look rows q) (λ id. id ≤ id_max)
bounded_at [] h q = tt
bounded_at (row ∷ rows) h q =
    elim (is_at (bytes_cmp q) row.name) as (λ b. IfSome (cond b (Some row.id) (look rows q)) (λ id. id ≤ id_max)) [ true ↦ h.0 | false ↦ bounded_at rows h.1 q ]

-- what rows in order give are ids
pub are_ids : (rows : List IdRow) → IsSortedList rows → AreIds (ids_of rows)
are_ids rows is name = subst (λ o. IfSome o (λ id. id ≤ id_max)) (sym (found (map pair_of rows) name)) (bounded_at rows is.bounded name)

pub none_is_sorted : IsSortedList []
none_is_sorted = record { sorted = none_sorted; bounded = tt }

-- ---- rows round one of them

shadowed : {A : Type 0} (b : Bool) (x y z : A) → cond b x z ≡ cond b x (cond b y z)
shadowed true x y z = refl
shadowed false x y z = refl

-- a name is given its id where it has none
put_in :
    (x : IdRow) (front back : List IdRow) → IsSortedList (front ++ back) → AreBelow (names_of front) x.name → AreAbove (names_of back) x.name → x.id ≤ id_max →
    (ids_of (front ++ x ∷ back) ≡ insert (ids_of (front ++ back)) x.name x.id) × IsSortedList (front ++ x ∷ back)
put_in x front back is below above bounded = (
  lists.put_given name_in id_in x front back below,
  record {
    sorted = lists.put_sorted name_in id_in x front back is.sorted below above;
    bounded = all_join _ front (x ∷ back) (all_front _ front back is.bounded) (bounded, all_back _ front back is.bounded);
  },
)

-- a name is given another id
change_in :
    (x y : IdRow) (front back : List IdRow) → IsSortedList (front ++ x ∷ back) → y.name ≡ x.name → y.id ≤ id_max →
    (ids_of (front ++ y ∷ back) ≡ insert (ids_of (front ++ x ∷ back)) y.name y.id) × IsSortedList (front ++ y ∷ back)
change_in x y front back is same bounded =
    let apart = lists.around name_in id_in x front back is.sorted in
    let apart_y : AllByRecursion (λ other. eq_by_cmp bytes_cmp y.name other.name ≡ false) front =
    subst (λ n. AllByRecursion (λ (other : IdRow). eq_by_cmp bytes_cmp n other.name ≡ false) front) (sym same) apart in (
      given (map pair_of (front ++ x ∷ back)) (map pair_of (front ++ y ∷ back)) y.name y.id
          (λ q. lists.look_round name_in id_in y front back apart_y q ∙ shadowed (is_at (bytes_cmp y.name) q) (Some y.id) (Some x.id) (look (front ++ back) q)
          ∙ ap (λ n. cond (is_at (bytes_cmp y.name) q) (Some y.id) (cond (is_at (bytes_cmp n) q) (Some x.id) (look (front ++ back) q))) same
          ∙ ap (cond (is_at (bytes_cmp y.name) q) (Some y.id)) (sym (lists.look_round name_in id_in x front back apart q))),
      record {
        sorted = subst (IsStrictlySortedBy bytes_cmp) (map-append name_in front (x ∷ back) ∙ ap (λ n. names_of front ++ n ∷ names_of back) (sym same) ∙ sym (map-append name_in front (y ∷ back))) is.sorted;
        bounded = all_join _ front (y ∷ back) (all_front _ front (x ∷ back) is.bounded) (bounded, (all_back _ front (x ∷ back) is.bounded).1);
      },
    )

-- ---- by places

-- the place where a name was found is within the rows
pub place_within : (rows : List IdRow) (at : ℕ) (name : List ℕ) → slice_get (names_of rows) at ≡ Some name → at < length rows
place_within rows at name is = lists.place_within name_in id_in rows at name is

-- the id of a name that was found
pub id_at : (rows : List IdRow) (at : ℕ) (name : List ℕ) (d : IdRow) → IsSortedList rows → slice_get (names_of rows) at ≡ Some name
    → Some (get_or rows at d).id ≡ get (ids_of rows) name
id_at rows at name d is here =
    let row = lists.item_at name_in id_in rows at name here in
    ap (λ (o : IdRow). Some o.id) (get_or_from_slice_get rows at row.0 d row.1)
    ∙ sym (found (map pair_of rows) name ∙ lists.looked_at name_in id_in rows at row.0 name is.sorted row.1 row.2)

-- a name that was not found has no id
pub none_at : (rows : List IdRow) (name : List ℕ) (at : ℕ) → IsPlaceFor rows name at → get (ids_of rows) name ≡ None
none_at rows name at place =
    let x : IdRow = record { name = name; id = 0 } in
    found (map pair_of rows) name
    ∙ lists.nothing_at name_in id_in rows at x (lists.below_take name_in id_in (take at rows) name place.lower) (lists.above_drop name_in id_in (drop at rows) name place.higher)

-- the name at a place is given another id
pub set_at_place :
    (old new : List IdRow) (at : ℕ) (y : IdRow) → IsSortedList old → slice_get (names_of old) at ≡ Some y.name → new ≡ set old at y → y.id ≤ id_max →
    (ids_of new ≡ insert (ids_of old) y.name y.id) × IsSortedList new
set_at_place old new at y is here now bounded =
    let row = lists.item_at name_in id_in old at y.name here in
    let x = row.0 in
    let front = take at old in
    let back = drop (suc at) old in
    let split = split_at old at x row.1 in
    let lt = slice_get_within old at x row.1 in
    let size : length front ≡ at = length-take-le at old (omega arith) in
    let is_new : new ≡ front ++ y ∷ back = now ∙ ap (λ l. set l at y) split ∙ set_at front x back y at size in
    let there = change_in x y front back (subst IsSortedList split is) (sym row.2) bounded in (
      ap ids_of is_new ∙ there.0 ∙ ap (λ l. insert (ids_of l) y.name y.id) (sym split),
      subst IsSortedList (sym is_new) there.1,
    )

-- a name is put at its place
pub put_at_place :
    (old new : List IdRow) (at : ℕ) (y : IdRow) → IsSortedList old → IsPlaceFor old y.name at → new ≡ take at old ++ y ∷ drop at old → y.id ≤ id_max →
    (ids_of new ≡ insert (ids_of old) y.name y.id) × IsSortedList new
put_at_place old new at y is place now bounded =
    let whole = take-append-drop at old in
    let there = put_in y (take at old) (drop at old) (subst IsSortedList (sym whole) is)
    (lists.below_take name_in id_in (take at old) y.name place.lower) (lists.above_drop name_in id_in (drop at old) y.name place.higher) bounded in (
      ap ids_of now ∙ there.0 ∙ ap (λ l. insert (ids_of l) y.name y.id) whole,
      subst IsSortedList (sym now) there.1,
    )
