-- Lists of units in order, and the maps of states that they give.
use Rattle.std.proofs.Common.{◌≡◌, ◌≢◌, ℕ, ◌<◌, true, false, cond, List, [], ◌∷◌, ◌++◌, length, get_or, take, drop, set, map, Option, None, Some, unwrap_or, refl, sym, ap, ◌∙◌, subst, inl, inr, suc, rules, arith}
use Rattle.std.proofs.lemmas.List.{map-append, length-take-le, take-append-drop, set_at}
use Rattle.std.proofs.lemmas.Option.{get_or_from_slice_get, slice_get_within}
use Rattle.std.specs.BTreeMap.{is_at}
use Rattle.std.specs.Cmp.{eq_by_cmp_equiv}
use Rattle.std.specs.FinMap.{get, insert, remove, gets, get_tied}
use Rattle.std.specs.List.{AllByRecursion, slice_get}
use Rattle.std.specs.List.Sorted.{IsStrictlySortedBy}
use Rattle.switch_names.specs.UnitName.{IsUnitName}
use Rattle.switch_names.proofs.Lists.{all_join, all_front, all_back}
use Rattle.host_trait.specs.Bytes.{bytes_cmp}
use Rattle.host_trait.specs.declared.unit_state.State.{State}
use Rattle.host_trait.specs.declared.unit_state.State.TheVariants.{Active, Inactive, Failed}
use Rattle.host_trait.specs.declared.unit_state.UnitState.{UnitState}
use Rattle.host_trait.specs.States.{AreStates, IsPlaceFor, IsSortedList, UnitStates, listed_states, state_of, states_of, units_of, with_state}
use Rattle.host_trait.proofs.Orders.{AreAbove, AreBelow, none_sorted, sorted_above, sorted_below, sorted_remove}
use Rattle.host_trait.proofs.SortedLists as lists
use Rattle.host_trait.proofs.SortedLists.{split_at}
use Rattle.host_trait.proofs.Places.{bytes_total, alike, found, gone, ordered_entries, same_or_other, some_of}

abbrev pub pair_of : UnitState → List ℕ × State
pair_of one = (one.unit, one.state)

abbrev unit_of : UnitState → List ℕ
unit_of one = one.unit

abbrev state_in_list : UnitState → State
state_in_list one = one.state

-- the state that a list gives a unit
abbrev look : List UnitState → List ℕ → Option State
look list q = lists.look unit_of state_in_list list q

unpaired : (list : List UnitState) → map (λ (e : List ℕ × State). record { unit = e.0; state = e.1 }) (map pair_of list) ≡ list
unpaired [] = refl
unpaired (one ∷ list) = ap (λ rest. one ∷ rest) (unpaired list)

-- a list in order is the list of its states
pub list_is : (list : List UnitState) → IsSortedList list → list ≡ listed_states (states_of list)
list_is list is =
    sym (ap (map (λ (e : List ℕ × State). record { unit = e.0; state = e.1 })) (ordered_entries (map pair_of list) (subst (IsStrictlySortedBy bytes_cmp) (sym (lists.keys_are_names unit_of state_in_list list)) is.sorted))
    ∙ unpaired list)

-- what holds of each unit of a list holds of each unit that has a state
listed_has :
    (P : UnitState → Type 0) (list : List UnitState) → AllByRecursion P list → (q : List ℕ) (state : State) → look list q ≡ Some state →
    (one : UnitState) × P one × (one.unit ≡ q) × (one.state ≡ state)
listed_has P [] h q state is = absurd (let none : None ≡ Some state = is in cc)
listed_has P (one ∷ list) h q state is = elim (same_or_other q one.unit) [
  | inl same ↦
      let at : is_at (bytes_cmp q) one.unit ≡ true = subst (λ x. is_at (bytes_cmp x) one.unit ≡ true) (sym same) ((eq_by_cmp_equiv bytes_total).refl one.unit) in
      let first : Some one.state ≡ Some state = sym (ap (λ b. cond b (Some one.state) (look list q)) at) ∙ is in
      (one, h.0, sym same, let e : one.state ≡ state = cc in e)
  | inr other ↦ listed_has P list h.1 q state (sym (ap (λ b. cond b (Some one.state) (look list q)) other) ∙ is)
]

-- the states of a list in order are states
pub are_states : (list : List UnitState) → IsSortedList list → AreStates (states_of list)
are_states list is = record {
  names = λ unit present.
      let state = some_of _ present in
      let one = listed_has (λ o. IsUnitName o.unit) list is.names unit state.0 (sym (found (map pair_of list) unit) ∙ state.1) in
      subst IsUnitName one.2 one.1;
  others = λ unit inactive.
      let one = listed_has (λ o. o.state ≢ Inactive) list is.others unit Inactive (sym (found (map pair_of list) unit) ∙ inactive) in
      one.1 one.3;
}

pub none_is_sorted : IsSortedList []
none_is_sorted = record { sorted = none_sorted; names = tt; others = tt }

-- ---- a list round one of its units

module _ (x : UnitState) where
  module _ (front back : List UnitState) where
    around : IsSortedList (front ++ x ∷ back) → lists.AreOther unit_of state_in_list x front × lists.AreOther unit_of state_in_list x back
    around is = (
      lists.around unit_of state_in_list x front back is.sorted,
      lists.other_above unit_of state_in_list x back
          (sorted_above (units_of front) x.unit (units_of back) (subst (IsStrictlySortedBy bytes_cmp) (map-append (λ (one : UnitState). one.unit) front (x ∷ back)) is.sorted)),
    )

    -- the unit is taken out
    pub taken_out : IsSortedList (front ++ x ∷ back) → (states_of (front ++ back) ≡ remove (states_of (front ++ x ∷ back)) x.unit) × IsSortedList (front ++ back)
    taken_out is =
        let apart = around is in (
          gone (map pair_of (front ++ x ∷ back)) (map pair_of (front ++ back)) x.unit
              (λ q. elim (is_at (bytes_cmp x.unit) q) as (λ b. is_at (bytes_cmp x.unit) q ≡ b → look (front ++ back) q ≡ cond b None (look (front ++ x ∷ back) q)) [
                | true ↦ λ e. lists.look_none unit_of state_in_list x (front ++ back) (all_join _ front back apart.0 apart.1) q e
                | false ↦ λ e. sym (lists.look_round unit_of state_in_list x front back apart.0 q ∙ ap (λ b. cond b (Some x.state) (look (front ++ back) q)) e)
              ] refl),
          record {
            sorted = subst (IsStrictlySortedBy bytes_cmp) (sym (map-append (λ (one : UnitState). one.unit) front back))
                (sorted_remove (units_of front) x.unit (units_of back) (subst (IsStrictlySortedBy bytes_cmp) (map-append (λ (one : UnitState). one.unit) front (x ∷ back)) is.sorted));
            names = all_join _ front back (all_front _ front (x ∷ back) is.names) (all_back _ front (x ∷ back) is.names).1;
            others = all_join _ front back (all_front _ front (x ∷ back) is.others) (all_back _ front (x ∷ back) is.others).1;
          },
        )

    -- the unit is put where it isn't yet
    pub put_in :
        IsSortedList (front ++ back) → AreBelow (units_of front) x.unit → AreAbove (units_of back) x.unit → IsUnitName x.unit → x.state ≢ Inactive →
        (states_of (front ++ x ∷ back) ≡ insert (states_of (front ++ back)) x.unit x.state) × IsSortedList (front ++ x ∷ back)
    put_in is below above name other = (
      lists.put_given unit_of state_in_list x front back below,
      record {
        sorted = lists.put_sorted unit_of state_in_list x front back is.sorted below above;
        names = all_join _ front (x ∷ back) (all_front _ front back is.names) (name, all_back _ front back is.names);
        others = all_join _ front (x ∷ back) (all_front _ front back is.others) (other, all_back _ front back is.others);
      },
    )

-- ---- by places

-- the item at the place where a unit was found
pub item_at : (list : List UnitState) (at : ℕ) (unit : List ℕ) → slice_get (units_of list) at ≡ Some unit → (x : UnitState) × (slice_get list at ≡ Some x) × (x.unit ≡ unit)
item_at list at unit is = lists.item_at unit_of state_in_list list at unit is

-- the place where a unit was found is within the list
pub place_within : (list : List UnitState) (at : ℕ) (unit : List ℕ) → slice_get (units_of list) at ≡ Some unit → at < length list
place_within list at unit is = lists.place_within unit_of state_in_list list at unit is

-- the state of a unit that was found
pub state_at : (list : List UnitState) (at : ℕ) (unit : List ℕ) (d : UnitState) → IsSortedList list → slice_get (units_of list) at ≡ Some unit
    → (get_or list at d).state ≡ state_of (states_of list) unit
state_at list at unit d is here =
    let one = item_at list at unit here in
    ap (λ (o : UnitState). o.state) (get_or_from_slice_get list at one.0 d one.1)
    ∙ sym (ap (λ o. unwrap_or o Inactive) (found (map pair_of list) unit ∙ lists.looked_at unit_of state_in_list list at one.0 unit is.sorted one.1 one.2))

-- a unit that was not found has no state
pub none_at : (list : List UnitState) (unit : List ℕ) (at : ℕ) → IsPlaceFor list unit at → get (states_of list) unit ≡ None
none_at list unit at place =
    let x : UnitState = record { unit = unit; state = Inactive } in
    found (map pair_of list) unit
    ∙ lists.nothing_at unit_of state_in_list list at x (lists.below_take unit_of state_in_list (take at list) unit place.lower) (lists.above_drop unit_of state_in_list (drop at list) unit place.higher)

-- nothing is removed where nothing stands
pub nothing_removed : (states : UnitStates) (unit : List ℕ) → get states unit ≡ None → states ≡ remove states unit
nothing_removed states unit none = alike _ _ (λ q. let tied = get_tied bytes_total states q unit in grind (gets, rules))

-- another state than inactive is listed
pub with_listed : (unit : List ℕ) (state : State) (states : UnitStates) → state ≢ Inactive → with_state unit state states ≡ insert states unit state
with_listed unit Active states other = refl
with_listed unit Failed states other = refl
with_listed unit Inactive states other = absurd (other refl)

inserted_again : (states : UnitStates) (unit : List ℕ) (state : State) → insert (remove states unit) unit state ≡ insert states unit state
inserted_again states unit state = alike _ _ (λ q. grind (gets, rules))

-- the unit at a place is taken out
pub taken_at :
    (old new : List UnitState) (at : ℕ) (x : UnitState) (unit : List ℕ) → IsSortedList old → slice_get (units_of old) at ≡ Some unit →
    slice_get old at ≡ Some x → old ≡ take at new ++ x ∷ drop at new →
    (states_of new ≡ remove (states_of old) unit) × IsSortedList new
taken_at old new at x unit is here taken rest =
    let one = item_at old at unit here in
    let same : x ≡ one.0 = let e : Some x ≡ Some one.0 = sym taken ∙ one.1 in cc in
    let name : x.unit ≡ unit = ap (λ (o : UnitState). o.unit) same ∙ one.2 in
    let whole = take-append-drop at new in
    let out = taken_out x (take at new) (drop at new) (subst IsSortedList rest is) in (
      sym (ap states_of whole) ∙ out.0 ∙ ap (λ l. remove (states_of l) x.unit) (sym rest) ∙ ap (remove (states_of old)) name,
      subst IsSortedList whole out.1,
    )

-- the unit at a place gets another state
pub set_at_place :
    (old new : List UnitState) (at : ℕ) (y : UnitState) → IsSortedList old → slice_get (units_of old) at ≡ Some y.unit → new ≡ set old at y →
    IsUnitName y.unit → y.state ≢ Inactive →
    (states_of new ≡ insert (states_of old) y.unit y.state) × IsSortedList new
set_at_place old new at y is here now name other =
    let one = item_at old at y.unit here in
    let x = one.0 in
    let front = take at old in
    let back = drop (suc at) old in
    let split = split_at old at x one.1 in
    let lt = slice_get_within old at x one.1 in
    let size : length front ≡ at = length-take-le at old (omega arith) in
    let is_new : new ≡ front ++ y ∷ back = now ∙ ap (λ l. set l at y) split ∙ set_at front x back y at size in
    let sorted = subst IsSortedList split is in
    let names = subst (IsStrictlySortedBy bytes_cmp) (map-append (λ (o : UnitState). o.unit) front (x ∷ back)) sorted.sorted in
    let below = subst (AreBelow (units_of front)) one.2 (sorted_below (units_of front) x.unit (units_of back) names) in
    let above = subst (AreAbove (units_of back)) one.2 (sorted_above (units_of front) x.unit (units_of back) names) in
    let out = taken_out x front back sorted in
    let there = put_in y front back out.1 below above name other in (
      ap states_of is_new ∙ there.0
          ∙ ap (λ (m : UnitStates). insert m y.unit y.state) (out.0 ∙ ap (λ l. remove (states_of l) x.unit) (sym split) ∙ ap (remove (states_of old)) one.2)
          ∙ inserted_again (states_of old) y.unit y.state,
      subst IsSortedList (sym is_new) there.1,
    )

-- a unit is put at its place
pub put_at_place :
    (old new : List UnitState) (at : ℕ) (y : UnitState) → IsSortedList old → IsPlaceFor old y.unit at → new ≡ take at old ++ y ∷ drop at old →
    IsUnitName y.unit → y.state ≢ Inactive →
    (states_of new ≡ insert (states_of old) y.unit y.state) × IsSortedList new
put_at_place old new at y is place now name other =
    let whole = take-append-drop at old in
    let there = put_in y (take at old) (drop at old) (subst IsSortedList (sym whole) is)
    (lists.below_take unit_of state_in_list (take at old) y.unit place.lower) (lists.above_drop unit_of state_in_list (drop at old) y.unit place.higher) name other in (
      ap states_of now ∙ there.0 ∙ ap (λ l. insert (states_of l) y.unit y.state) whole,
      subst IsSortedList (sym now) there.1,
    )
