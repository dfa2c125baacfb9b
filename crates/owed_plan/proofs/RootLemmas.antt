-- The targets from which units are pulled, as they are found in the lists.
use Rattle.std.proofs.Common.{◌≡◌, ◌||◌, ◌&&◌, T, Bool, true, false, cond, List, [], ◌∷◌, map, Option, None, Some, is_some, unwrap_or, refl, sym, ap, subst, ◌∙◌, inl, inr}
use Rattle.std.proofs.Math.Bool.{and-false}
use Rattle.std.specs.FinMap.{entries, entries_sorted, get, get-entries}
use Rattle.std.specs.FinMap.Entries.{below_all, find, is_sorted}
use Rattle.std.specs.List.{filter}
use Rattle.std.specs.List.Sorted.{IsStrictlySortedBy}
use Rattle.std.specs.Option.{option_map_or}
use Rattle.std.specs.Ordering.{is_lt}
use Rattle.std.proofs.lemmas.Bool.{and_from, and_parts, or_cases, or_left, or_right}
use Rattle.std.proofs.lemmas.Map.Views.{any-filter_same}
use Rattle.switch_names.specs.declared.unit_kind.UnitKind.TheVariants.{Target}
use Rattle.switch_names.specs.Names.{IsListOf, Name, has, is_name}
use Rattle.host_trait.specs.Bytes.{bytes_cmp}
use Rattle.host_trait.specs.Manager.{is_active}
use Rattle.host_trait.specs.States.{UnitStates, listed_states, state_of, units_of}
use Rattle.host_trait.specs.declared.unit_state.State.{State}
use Rattle.host_trait.specs.declared.unit_state.State.TheVariants.{Inactive}
use Rattle.host_trait.specs.declared.unit_state.UnitState.{UnitState}
use Rattle.unit_decide.specs.Facts.{unit_kind}
use Rattle.unit_decide.specs.Flags.{may_start}
use Rattle.unit_decide.specs.Kinds.{is_kind}
use Rattle.unit_decide.proofs.TableLemmas.{target_from_test}
use Rattle.host_trait.proofs.NameOrder.{less_is_other, name_exact}
use Rattle.host_trait.proofs.KeyOrder.{left_of, less_from, right_of}
use Rattle.host_trait.proofs.StateMaps.{active_from_test}
use Rattle.unit_defs.specs.declared.unit.Unit.{Unit}
use Rattle.unit_defs.specs.Defs.{found_in}
use Rattle.log_text.specs.declared.lists.Lists.{Lists}
use Rattle.owed_plan.specs.Lists.{pending}
use Rattle.owed_plan.specs.Pull.{IsRoot}
use Rattle.owed_plan.specs.Roots.{is_defined_target, is_running_target, may_run}
use Rattle.owed_plan.specs.Systems.{Texts, systems_in}
use Rattle.unit_text.specs.declared.assignment.Assignment.{Assignment}

-- ---- units in order, each with its state

abbrev Entries : Type 0
Entries = List (Name × State)

abbrev units_in : Entries → List UnitState
units_in es = map (λ (e : Name × State). record { unit = e.0; state = e.1 }) es

-- the units among these that pass a test
abbrev passing : (UnitState → Bool) → Entries → List Name
passing p es = units_of (filter p (units_in es))

has_choice : (b : Bool) (unit : Name) (one : UnitState) (rest : List UnitState) → has (units_of (cond b (one ∷ rest) rest)) unit ≡ ((b && is_name unit one.unit) || has (units_of rest) unit)
has_choice true unit one rest = refl
has_choice false unit one rest = refl

module _ (p : UnitState → Bool) where
  -- a unit that is lower than these is none of them
  not_above : (unit : Name) (es : Entries) → T (below_all bytes_cmp unit es) → has (passing p es) unit ≡ false
  not_above unit [] below = refl
  not_above unit (e ∷ es) below =
      let one : UnitState = record { unit = e.0; state = e.1 } in
      has_choice (p one) unit one (filter p (units_in es))
      ∙ ap (λ b. (p one && b) || has (passing p es) unit) (less_is_other unit e.0 (less_from (bytes_cmp unit e.0) (left_of _ _ below)))
      ∙ ap (λ b. b || has (passing p es) unit) (and-false (p one))
      ∙ not_above unit es (right_of (is_lt (bytes_cmp unit e.0)) _ below)

  abbrev passes_as : Name → Option State → Bool
  passes_as unit state = option_map_or (λ (s : State). p (record { unit = unit; state = s })) state false

  -- a unit passes by the state that is found for it
  passing_found : (unit : Name) (es : Entries) → T (is_sorted bytes_cmp es) → has (passing p es) unit ≡ passes_as unit (find bytes_cmp unit es)
  passing_found unit [] sorted = refl
  passing_found unit (e ∷ es) sorted =
      has_choice (p one) unit one (filter p (units_in es)) ∙ by (is_name unit e.0) refl (passing_found unit es (right_of (below_all bytes_cmp e.0 es) _ sorted))
    where
      one : UnitState
      one = record { unit = e.0; state = e.1 }

      either : (b h : Bool) → h ≡ false → ((b && true) || h) ≡ b
      either true h lacks = refl
      either false h lacks = lacks

      by : (b : Bool) → is_name unit e.0 ≡ b → has (passing p es) unit ≡ passes_as unit (find bytes_cmp unit es) →
          ((p one && b) || has (passing p es) unit) ≡ passes_as unit (cond b (Some e.1) (find bytes_cmp unit es))
      by true same rest =
          let name : unit ≡ e.0 = name_exact unit e.0 same in
          either (p one) (has (passing p es) unit) (ap (λ n. has (passing p es) n) name ∙ not_above e.0 es (left_of (below_all bytes_cmp e.0 es) _ sorted))
          ∙ sym (ap (λ (n : Name). p (record { unit = n; state = e.1 })) name)
      by false other rest = ap (λ b. b || has (passing p es) unit) (and-false (p one)) ∙ rest

-- ---- the two ways to be a root

-- a text by which a switch may start a unit is one that is there and says so
run_parts : (text : Option (List Assignment)) → may_run text ≡ true → (is_some text ≡ true) × (may_start (unwrap_or text []) ≡ true)
run_parts None is = absurd cc
run_parts (Some one) is = (refl, is)

run_from : (text : Option (List Assignment)) → is_some text ≡ true → may_start (unwrap_or text []) ≡ true → may_run text ≡ true
run_from None there may = absurd cc
run_from (Some one) there may = may

module _ (text_of : Name → Option (List Assignment)) where
  by_state : (unit : Name) (state : Option State) → passes_as (is_running_target text_of) unit state ≡ is_running_target text_of (record { unit = unit; state = unwrap_or state Inactive })
  by_state unit None = refl
  by_state unit (Some state) = refl

  -- a unit is found among the listed ones by its state
  running_found : (states : UnitStates) (unit : Name) →
      has (units_of (filter (is_running_target text_of) (listed_states states))) unit ≡ is_running_target text_of (record { unit = unit; state = state_of states unit })
  running_found states unit =
      passing_found (is_running_target text_of) unit (entries states) (entries_sorted states)
      ∙ ap (passes_as (is_running_target text_of) unit) (sym (get-entries states unit))
      ∙ by_state unit (get states unit)

  pending_found : (starts : List Name) (unit : Name) → has (filter (is_defined_target text_of) starts) unit ≡ (is_defined_target text_of unit && has starts unit)
  pending_found starts unit = any-filter_same (is_name unit) (is_defined_target text_of) (is_defined_target text_of unit) (λ other same. ap (is_defined_target text_of) (sym (name_exact unit other same))) starts

module _ (old new : List Unit) (states : UnitStates) (lists : Lists) where
  abbrev text_of : Texts
  text_of = found_in new

  abbrev IsOne : Name → Type 0
  IsOne = IsRoot (systems_in old new) (state_of states) lists

  module _ (unit : Name) where
    root_running : is_running_target text_of (record { unit = unit; state = state_of states unit }) ≡ true → IsOne unit
    root_running is =
        let parts = and_parts (is_active (state_of states unit) && is_kind (unit_kind unit) Target) (may_run (text_of unit)) is in
        let both = and_parts (is_active (state_of states unit)) (is_kind (unit_kind unit) Target) parts.0 in
        let text = run_parts (text_of unit) parts.1 in
        IsRoot.Running text.0 (target_from_test (unit_kind unit) both.1) (active_from_test (state_of states unit) both.0) text.1

    root_pending : (is_defined_target text_of unit && has (pending lists) unit) ≡ true → IsOne unit
    root_pending is =
        let parts = and_parts (is_defined_target text_of unit) (has (pending lists) unit) is in
        let both = and_parts (is_kind (unit_kind unit) Target) (is_some (text_of unit)) parts.0 in
        IsRoot.Pending both.1 (target_from_test (unit_kind unit) both.0) parts.1

    is_one : IsOne unit → (is_running_target text_of (record { unit = unit; state = state_of states unit }) || (is_defined_target text_of unit && has (pending lists) unit)) ≡ true
    is_one (IsRoot.Running defined kind active may) = or_left _ _
        (and_from _ _ (and_from _ _ (ap is_active active) (ap (λ k. is_kind k Target) kind)) (run_from (text_of unit) defined may))
    is_one (IsRoot.Pending defined kind waits) = or_right (is_running_target text_of (record { unit = unit; state = state_of states unit })) _
        (and_from _ _ (and_from _ _ (ap (λ k. is_kind k Target) kind) defined) waits)

  -- what the two steps add to an empty set are the roots
  pub are_roots : (starts roots none one two : List Name) (listed : List UnitState) → listed ≡ listed_states states → none ≡ [] →
      ((unit : Name) → has one unit ≡ (has none unit || has (units_of (filter (is_running_target text_of) listed)) unit)) →
      ((unit : Name) → has two unit ≡ (has one unit || has (filter (is_defined_target text_of) starts) unit)) →
      IsStrictlySortedBy bytes_cmp two → roots ≡ two → pending lists ≡ starts → IsListOf roots IsOne
  are_roots starts roots none one two listed is_list empty first second sorted are waiting = record {
    sorted = subst (IsStrictlySortedBy bytes_cmp) (sym are) sorted;
    exact = λ unit. (
      λ is. elim (or_cases _ _ (sym (tested unit) ∙ is)) [
        | inl running ↦ root_running unit running
        | inr pending ↦ root_pending unit pending
      ],
      λ is. tested unit ∙ is_one unit is,
    );
  }
    where
      tested : (unit : Name) → has roots unit ≡ (is_running_target text_of (record { unit = unit; state = state_of states unit }) || (is_defined_target text_of unit && has (pending lists) unit))
      tested unit =
          ap (λ (names : List Name). has names unit) are ∙ second unit
          ∙ ap (λ b. b || has (filter (is_defined_target text_of) starts) unit)
          (first unit ∙ ap (λ (names : List Name). has names unit || has (units_of (filter (is_running_target text_of) listed)) unit) empty
          ∙ ap (λ (list : List UnitState). has (units_of (filter (is_running_target text_of) list)) unit) is_list
          ∙ running_found text_of states unit)
          ∙ ap (λ b. is_running_target text_of (record { unit = unit; state = state_of states unit }) || b) (pending_found text_of starts unit ∙ ap (λ (names : List Name). is_defined_target text_of unit && has names unit) (sym waiting))
