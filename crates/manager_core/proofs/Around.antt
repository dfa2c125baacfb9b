-- The units that are listed before one and after it.
use Rattle.std.proofs.Common.{◌≡◌, ◌≢◌, ℕ, suc, List, [], ◌∷◌, ◌++◌, length, get_or, set, take, drop, map, T, None, Some, unwrap_or, refl, sym, ap, ◌∙◌, subst, arith}
use Rattle.std.proofs.lemmas.List.{length-take-le, set_at, take-append-drop}
use Rattle.std.proofs.lemmas.Option.{get_or_from_slice_get, slice_get_within}
use Rattle.std.specs.FinMap.{entries, entries_sorted, from_entries, get, get-from_entries, insert, is_sorted, remove}
use Rattle.std.specs.FinMap.Entries.{below_all}
use Rattle.std.specs.List.{AllByRecursion, slice_get}
use Rattle.std.specs.List.Sorted.{IsStrictlySortedBy}
use Rattle.std.specs.declared.cmp.Ordering.TheVariants.{Less}
use Rattle.switch_names.specs.UnitName.{IsUnitName}
use Rattle.host_trait.specs.Bytes.{bytes_cmp}
use Rattle.host_trait.specs.States.{AreStates, IsPlaceFor, IsSortedList, UnitStates, listed_states, state_of, states_of, units_of, with_state}
use Rattle.host_trait.specs.declared.unit_state.State.{State}
use Rattle.host_trait.specs.declared.unit_state.State.TheVariants.{Active, Inactive, Failed}
use Rattle.host_trait.specs.declared.unit_state.UnitState.{UnitState}
use Rattle.host_trait.proofs.Places.{alike, bytes_total}
use Rattle.host_trait.proofs.SortedLists.{split_at}
use Rattle.host_trait.proofs.StateLists.{item_at, list_is, none_at, nothing_removed, put_at_place, set_at_place, state_at, taken_out}
use Rattle.manager_core.specs.StateText.{IsLine, lines_text}
use Rattle.manager_core.specs.UnitLine.{AreAround, listed_one, unit_text}
use Rattle.manager_core.specs.declared.line.Line.TheVariants as line
use Rattle.manager_core.proofs.Growth.{less_is}
use Rattle.manager_core.proofs.Listed.{got, listed_lines}
use Rattle.manager_core.proofs.Order.{both_of, front_of, true_is}

-- ---- the units that states list are in order

abbrev as_listed : List ℕ × State → UnitState
as_listed e = record { unit = e.0; state = e.1 }

all_above : (unit : List ℕ) (es : List (List ℕ × State)) → T (below_all bytes_cmp unit es) → AllByRecursion (λ y. bytes_cmp unit y ≡ Less) (units_of (map as_listed es))
all_above unit [] h = tt
all_above unit (e ∷ es) h = let parts = both_of _ _ h in (less_is (bytes_cmp unit e.0) (true_is _ parts.0), all_above unit es parts.1)

in_order : (es : List (List ℕ × State)) → T (is_sorted bytes_cmp es) → IsStrictlySortedBy bytes_cmp (units_of (map as_listed es))
unfolding IsStrictlySortedBy
in_order [] h = tt
in_order (e ∷ es) h = let parts = both_of _ _ h in (all_above e.0 es parts.0, in_order es parts.1)

names_of : (list : List UnitState) → AllByRecursion IsLine (map line.State list) → AllByRecursion (λ one. IsUnitName one.unit) list
names_of [] h = tt
names_of (one ∷ list) h = (h.0.0, names_of list h.1)

others_of : (list : List UnitState) → AllByRecursion IsLine (map line.State list) → AllByRecursion (λ one. one.state ≢ Inactive) list
others_of [] h = tt
others_of (one ∷ list) h = (h.0.1, others_of list h.1)

pub sorted_list : (states : UnitStates) → AreStates states → IsSortedList (listed_states states)
sorted_list states are = record {
  sorted = in_order (entries states) (entries_sorted states);
  names = names_of (listed_states states) (listed_lines states are);
  others = others_of (listed_states states) (listed_lines states are);
}

unlisted : (es : List (List ℕ × State)) → map (λ (one : UnitState). (one.unit, one.state)) (map as_listed es) ≡ es
unlisted [] = refl
unlisted (e ∷ es) = ap (λ rest. e ∷ rest) (unlisted es)

-- what states list gives them again
again : (states : UnitStates) → states_of (listed_states states) ≡ states
again states =
    ap (λ es. from_entries {R = bytes_cmp} es) (unlisted (entries states)) ∙ alike _ _ (λ unit. get-from_entries bytes_total (entries states) unit ∙ sym (got states unit))

-- ---- a unit that is listed, and one that isn't

one_listed : (unit : List ℕ) (state : State) → state ≢ Inactive → as_listed (unit, state) ∷ [] ≡ listed_one unit state
one_listed unit Active other = refl
one_listed unit Failed other = refl
one_listed unit Inactive other = absurd (other refl)

module _ (states : UnitStates) (are : AreStates states) (unit : List ℕ) (at : ℕ) (name : IsUnitName unit) where
  abbrev list : List UnitState
  list = listed_states states

  module _ (here : slice_get (units_of list) at ≡ Some unit) where
    abbrev front : List UnitState
    front = take at list

    abbrev back : List UnitState
    back = drop (suc at) list

    set_listed : (state : State) → state ≢ Inactive → listed_states (insert states unit state) ≡ front ++ as_listed (unit, state) ∷ back
    set_listed state other =
        let y = as_listed (unit, state) in
        let one = item_at list at unit here in
        let x = one.0 in
        let within = slice_get_within list at x one.1 in
        let size : length front ≡ at = length-take-le at list (omega arith) in
        let is : set list at y ≡ front ++ y ∷ back = ap (λ l. set l at y) (split_at list at x one.1) ∙ set_at front x back y at size in
        let there = set_at_place list (set list at y) at y (sorted_list states are) here refl name other in
        sym (sym is ∙ list_is (set list at y) there.1 ∙ ap listed_states (there.0 ∙ ap (λ (m : UnitStates). insert m unit state) (again states)))

    found_then : (state : State) → listed_states (with_state unit state states) ≡ front ++ (listed_one unit state ++ back)
    found_then Active = set_listed Active (λ e. cc)
    found_then Failed = set_listed Failed (λ e. cc)
    found_then Inactive =
        let one = item_at list at unit here in
        let x = one.0 in
        let split = split_at list at x one.1 in
        let out = taken_out x front back (subst IsSortedList split (sorted_list states are)) in
        sym (list_is (front ++ back) out.1
        ∙ ap listed_states (out.0 ∙ ap (λ l. remove (states_of l) x.unit) (sym split) ∙ ap (λ (m : UnitStates). remove m x.unit) (again states) ∙ ap (remove states) one.2))

    abbrev item : UnitState
    item = (item_at list at unit here).0

    item_listed : item ∷ [] ≡ listed_one unit (state_of states unit)
    item_listed =
        let one = item_at list at unit here in
        let sorted = sorted_list states are in
        let split = split_at list at item one.1 in
        let state : item.state ≡ state_of states unit =
        sym (ap (λ (o : UnitState). o.state) (get_or_from_slice_get list at item item one.1)) ∙ state_at list at unit item sorted here ∙ ap (λ (m : UnitStates). state_of m unit) (again states) in
        let other : item.state ≢ Inactive = (front_of (λ (o : UnitState). o.state ≢ Inactive) front (item ∷ back) (subst IsSortedList split sorted).others).1.0 in
        ap (λ u. as_listed (u, item.state) ∷ []) one.2 ∙ one_listed unit item.state other ∙ ap (listed_one unit) state

    -- its line
    pub found_line : (x : UnitState) → x ≡ get_or list at x → lines_text (line.State x ∷ []) ≡ unit_text unit (state_of states unit)
    found_line x is =
        ap (λ (o : UnitState). lines_text (line.State o ∷ [])) (is ∙ get_or_from_slice_get list at item x (item_at list at unit here).1)
        ∙ ap (λ list. lines_text (map line.State list)) item_listed

    found_now : list ≡ front ++ (listed_one unit (state_of states unit) ++ back)
    found_now = split_at list at item (item_at list at unit here).1 ∙ ap (λ ys. front ++ (ys ++ back)) item_listed

    -- one that is listed at this place
    pub found_around : AreAround states unit front back
    found_around = record { now = found_now; then = found_then }

  module _ (place : IsPlaceFor list unit at) where
    none : get states unit ≡ None
    none = ap (λ (m : UnitStates). get m unit) (sym (again states)) ∙ none_at list unit at place

    put_listed : (state : State) → state ≢ Inactive → listed_states (insert states unit state) ≡ take at list ++ as_listed (unit, state) ∷ drop at list
    put_listed state other =
        let y = as_listed (unit, state) in
        let there = put_at_place list (take at list ++ y ∷ drop at list) at y (sorted_list states are) place refl name other in
        sym (list_is (take at list ++ y ∷ drop at list) there.1 ∙ ap listed_states (there.0 ∙ ap (λ (m : UnitStates). insert m unit state) (again states)))

    missing_then : (state : State) → listed_states (with_state unit state states) ≡ take at list ++ (listed_one unit state ++ drop at list)
    missing_then Active = put_listed Active (λ e. cc)
    missing_then Failed = put_listed Failed (λ e. cc)
    missing_then Inactive = ap listed_states (sym (nothing_removed states unit none)) ∙ sym (take-append-drop at list)

    pub missing_state : state_of states unit ≡ Inactive
    missing_state = ap (λ o. unwrap_or o Inactive) none

    -- one that would be listed there
    pub missing_around : AreAround states unit (take at list) (drop at list)
    missing_around = record {
      now = sym (take-append-drop at list) ∙ ap (λ s. take at list ++ (listed_one unit s ++ drop at list)) (sym missing_state);
      then = missing_then;
    }
