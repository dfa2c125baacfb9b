-- The units that have failed, among the states of all.
use Rattle.std.proofs.Common.{◌≡◌, ◌&&◌, T, Bool, true, false, cond, List, [], ◌∷◌, Option, None, Some, IsSome, unwrap_or, refl, sym, ap, subst, ◌∙◌, inl, inr}
use Rattle.std.specs.FinMap.{entries, entries_sorted, find, get-entries}
use Rattle.std.specs.FinMap.Entries.{below_all, is_sorted}
use Rattle.std.specs.List.{list_any}
use Rattle.std.specs.Ordering.{is_lt}
use Rattle.std.proofs.lemmas.Bool.{and_from, or_cases, or_left, or_right}
use Rattle.host_trait.proofs.KeyOrder.{left_of, less_from, right_of}
use Rattle.host_trait.specs.World.{bytes_cmp}
use Rattle.host_trait.specs.States.{UnitStates, listed_states}
use Rattle.host_trait.specs.declared.unit_state.State.{State}
use Rattle.host_trait.specs.declared.unit_state.State.TheVariants.{Active, Inactive, Failed}
use Rattle.switch_names.specs.Names.{Name, is_name}
use Rattle.switch_engine.specs.Final.{HasFailed, is_failed, is_failed_of}
use Rattle.unit_defs.specs.declared.unit.Unit.{Unit}
use Rattle.unit_defs.specs.Defs.{found_in}
use Rattle.host_trait.proofs.NameOrder.{less_is_other, name_exact, name_itself}
use Rattle.owed_plan.proofs.ActiveLemmas.{listed}

both_of : (a b : Bool) → a && b ≡ true → (a ≡ true) × (b ≡ true)
both_of true b is = (refl, is)
both_of false b is = absurd cc

-- a state that tests as failed is that
pub failed_from : (state : State) → is_failed state ≡ true → state ≡ Failed
failed_from Failed is = refl
failed_from Active is = absurd cc
failed_from Inactive is = absurd cc

-- a name below all others has no entry among them
below_find : (es : List (Name × State)) (unit : Name) → T (below_all bytes_cmp unit es) → find bytes_cmp unit es ≡ None
below_find [] unit below = refl
below_find (e ∷ es) unit below =
    ap (λ b. cond b (Some e.1) (find bytes_cmp unit es)) (less_is_other unit e.0 (less_from (bytes_cmp unit e.0) (left_of _ _ below)))
    ∙ below_find es unit (right_of (is_lt (bytes_cmp unit e.0)) _ below)

not_failed : (o : Option State) → o ≡ None → unwrap_or o Inactive ≡ Failed → ⊥
not_failed o none is = cc

module _ (units : List Unit) where
  abbrev found : List (Name × State) → Name → Type 0
  found es unit = (unwrap_or (find bytes_cmp unit es) Inactive ≡ Failed) × IsSome (found_in units unit)

  failed_among : (es : List (Name × State)) → T (is_sorted bytes_cmp es) → list_any (is_failed_of units) (listed es) ≡ true → (unit : Name) × found es unit
  failed_among [] sorted is = absurd cc
  failed_among (e ∷ es) sorted is =
      elim (or_cases (is_failed_of units (record { unit = e.0; state = e.1 })) (list_any (is_failed_of units) (listed es)) is) [
        | inl holds ↦
            let both = both_of (is_failed e.1) _ holds in
            (e.0, (ap (λ b. unwrap_or (cond b (Some e.1) (find bytes_cmp e.0 es)) Inactive) (name_itself e.0) ∙ failed_from e.1 both.0, both.1))
        | inr more ↦
            let rest = failed_among es (right_of (below_all bytes_cmp e.0 es) _ sorted) more in
            (rest.0, (after rest.0 rest.1.0 (is_name rest.0 e.0) refl, rest.1.1))
      ]
    where
      after : (unit : Name) → unwrap_or (find bytes_cmp unit es) Inactive ≡ Failed → (b : Bool) → is_name unit e.0 ≡ b → unwrap_or (find bytes_cmp unit (e ∷ es)) Inactive ≡ Failed
      after unit failed true same =
          absurd (not_failed (find bytes_cmp unit es)
          (below_find es unit (subst (λ name. T (below_all bytes_cmp name es)) (sym (name_exact unit e.0 same)) (left_of _ _ sorted))) failed)
      after unit failed false other = ap (λ b. unwrap_or (cond b (Some e.1) (find bytes_cmp unit es)) Inactive) other ∙ failed

  failed_here : (es : List (Name × State)) (unit : Name) → found es unit → list_any (is_failed_of units) (listed es) ≡ true
  failed_here [] unit is = absurd (not_failed None refl is.0)
  failed_here (e ∷ es) unit is = at (λ here. failed_here es unit here) (is_name unit e.0) refl
    where
      at : (found es unit → list_any (is_failed_of units) (listed es) ≡ true) → (b : Bool) → is_name unit e.0 ≡ b → list_any (is_failed_of units) (listed (e ∷ es)) ≡ true
      at rest true same =
          let state : e.1 ≡ Failed = sym (ap (λ b. unwrap_or (cond b (Some e.1) (find bytes_cmp unit es)) Inactive) same) ∙ is.0 in
          or_left (is_failed_of units (record { unit = e.0; state = e.1 })) (list_any (is_failed_of units) (listed es))
          (and_from (is_failed e.1) _ (ap is_failed state) (subst (λ name. IsSome (found_in units name)) (name_exact unit e.0 same) is.1))
      at rest false other =
          or_right (is_failed_of units (record { unit = e.0; state = e.1 })) (list_any (is_failed_of units) (listed es))
          (rest (sym (ap (λ b. unwrap_or (cond b (Some e.1) (find bytes_cmp unit es)) Inactive) other) ∙ is.0, is.1))

  -- what a test of all states says
  pub has_failed : (states : UnitStates) → list_any (is_failed_of units) (listed_states states) ≡ true → HasFailed units states
  has_failed states is =
      let one = failed_among (entries states) (entries_sorted states) is in
      (one.0, ap (λ (o : Option State). unwrap_or o Inactive) (get-entries states one.0) ∙ one.1.0, one.1.1)

  pub failed_is_found : (states : UnitStates) → HasFailed units states → list_any (is_failed_of units) (listed_states states) ≡ true
  failed_is_found states is =
      failed_here (entries states) is.0 (sym (ap (λ (o : Option State). unwrap_or o Inactive) (get-entries states is.0)) ∙ is.1, is.2)
