-- The units that states list.
use Rattle.std.proofs.Common.{◌≡◌, ℕ, cond, List, [], ◌∷◌, map, T, None, Some, is_some, refl, sym, ap, ◌∙◌, inl, inr}
use Rattle.std.specs.Cmp.{eq_by_cmp_equiv}
use Rattle.std.specs.FinMap.{entries, entries_sorted, entries-from_sorted, find, from_sorted, get, get-from_sorted, is_sorted, same_entries_map}
use Rattle.std.specs.FinMap.Entries.{below_all}
use Rattle.std.specs.List.{AllByRecursion}
use Rattle.std.specs.Ordering.{is_eq}
use Rattle.host_trait.specs.Bytes.{bytes_cmp}
use Rattle.host_trait.specs.States.{AreStates, UnitStates, listed_states}
use Rattle.host_trait.specs.declared.unit_state.State.{State}
use Rattle.host_trait.proofs.Places.{bytes_total, same_or_other}
use Rattle.manager_core.specs.declared.line.Line.TheVariants as line
use Rattle.manager_core.specs.StateText.{IsLine}
use Rattle.manager_core.proofs.Growth.{less_is}
use Rattle.manager_core.proofs.Order.{both_of, true_is}

-- none of the keys above one is that one
none_above : (unit : List ℕ) (es : List (List ℕ × State)) → T (below_all bytes_cmp unit es) → find bytes_cmp unit es ≡ None
none_above unit [] h = refl
none_above unit (e ∷ es) h =
    let parts = both_of _ _ h in
    ap (λ o. cond (is_eq o) (Some e.1) (find bytes_cmp unit es)) (less_is (bytes_cmp unit e.0) (true_is _ parts.0)) ∙ none_above unit es parts.1

-- each entry is found among all, where those found from it on are
all_found : (es all : List (List ℕ × State)) → T (is_sorted bytes_cmp es) → ((unit : List ℕ) (state : State) → find bytes_cmp unit es ≡ Some state → find bytes_cmp unit all ≡ Some state)
    → AllByRecursion (λ (e : List ℕ × State). find bytes_cmp e.0 all ≡ Some e.1) es
all_found [] all sorted more = tt
all_found (e ∷ es) all sorted more =
    let parts = both_of _ _ sorted in (
      more e.0 e.1 (ap (λ b. cond b (Some e.1) (find bytes_cmp e.0 es)) ((eq_by_cmp_equiv bytes_total).refl e.0)),
      all_found es all parts.1 (λ unit state is. more unit state (elim (same_or_other unit e.0) [
        | inl same ↦
            let none : find bytes_cmp unit es ≡ None = ap (λ u. find bytes_cmp u es) same ∙ none_above e.0 es parts.0 in
            absurd (let n : None ≡ Some state = sym none ∙ is in cc)
        | inr other ↦ ap (λ b. cond b (Some e.1) (find bytes_cmp unit es)) other ∙ is
      ])),
    )

-- what a unit's state is among the entries
pub got : (states : UnitStates) (unit : List ℕ) → get states unit ≡ find bytes_cmp unit (entries states)
got states unit =
    let same : from_sorted (entries states) ≡ states = same_entries_map (from_sorted (entries states)) states (entries-from_sorted bytes_cmp (entries states) (entries_sorted states)) in
    ap (λ (s : UnitStates). get s unit) (sym same) ∙ get-from_sorted bytes_cmp (entries states) unit (entries_sorted states)

lines_of : (states : UnitStates) → AreStates states → (es : List (List ℕ × State)) → AllByRecursion (λ (e : List ℕ × State). find bytes_cmp e.0 (entries states) ≡ Some e.1) es
    → AllByRecursion IsLine (map line.State (map (λ (e : List ℕ × State). record { unit = e.0; state = e.1 }) es))
lines_of states are [] found = tt
lines_of states are (e ∷ es) found = (
  (are.names e.0 (ap is_some (got states e.0 ∙ found.0)), λ inactive. are.others e.0 (got states e.0 ∙ found.0 ∙ ap Some inactive)),
  lines_of states are es found.1,
)

-- each of them makes a line
pub listed_lines : (states : UnitStates) → AreStates states → AllByRecursion IsLine (map line.State (listed_states states))
listed_lines states are = lines_of states are (entries states) (all_found (entries states) (entries states) (entries_sorted states) (λ unit state is. is))
