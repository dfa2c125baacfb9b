-- The active units of some states, and what is decided on each.
use Rattle.std.proofs.Common.{◌≡◌, ◌||◌, ◌&&◌, T, Bool, true, false, cond, List, [], ◌∷◌, Option, Some, map, filter, unwrap_or, refl, sym, ap, subst, ◌∙◌, inl, inr}
use Rattle.std.specs.FinMap.{entries, entries_sorted, find, get-entries}
use Rattle.std.specs.FinMap.Entries.{below_all, is_sorted}
use Rattle.std.specs.List.{list_any}
use Rattle.std.specs.Ordering.{is_lt}
use Rattle.std.proofs.lemmas.Bool.{or_cases, or_left, or_right}
use Rattle.host_trait.specs.World.{bytes_cmp}
use Rattle.host_trait.specs.States.{UnitStates, listed_states, state_of}
use Rattle.host_trait.specs.declared.unit_state.State.{State}
use Rattle.host_trait.specs.declared.unit_state.State.TheVariants.{Active, Inactive}
use Rattle.host_trait.specs.declared.unit_state.UnitState.{UnitState}
use Rattle.host_trait.specs.Manager.{is_active}
use Rattle.host_trait.proofs.KeyOrder.{left_of, less_from, right_of}
use Rattle.owed_plan.specs.Decisions.{Situation, decision_of, decisions_of}
use Rattle.owed_plan.specs.declared.deciding.UnitDecision.{UnitDecision}
use Rattle.switch_names.specs.Names.{Name, has, is_name}
use Rattle.host_trait.proofs.NameOrder.{less_is_other, name_exact, name_itself, passes_among}
use Rattle.host_trait.proofs.StateMaps.{active_from_test}

abbrev pub units_with : List UnitState → List Name
units_with list = map (λ one. one.unit) (filter (λ one. is_active one.state) list)

abbrev pub listed : List (Name × State) → List UnitState
listed es = map (λ e. record { unit = e.0; state = e.1 }) es

chosen : (b : Bool) (one : UnitState) (rest : List UnitState) (unit : Name) → has (map (λ (one : UnitState). one.unit) (cond b (one ∷ rest) rest)) unit ≡ ((b && is_name unit one.unit) || has (map (λ (one : UnitState). one.unit) rest) unit)
chosen true one rest unit = refl
chosen false one rest unit = refl

not_named : (b n h : Bool) → n ≡ false → ((b && n) || h) ≡ h
not_named true n h other = ap (λ x. x || h) other
not_named false n h other = refl

alone : (b h : Bool) → h ≡ false → ((b && true) || h) ≡ b
alone true h none = refl
alone false h none = none

-- a name below all others isn't among them
below_lack : (es : List (Name × State)) (unit : Name) → T (below_all bytes_cmp unit es) → has (units_with (listed es)) unit ≡ false
below_lack [] unit below = refl
below_lack (e ∷ es) unit below =
    chosen (is_active e.1) (record { unit = e.0; state = e.1 }) (filter (λ one. is_active one.state) (listed es)) unit
    ∙ not_named (is_active e.1) (is_name unit e.0) (has (units_with (listed es)) unit) (less_is_other unit e.0 (less_from (bytes_cmp unit e.0) (left_of _ _ below)))
    ∙ below_lack es unit (right_of (is_lt (bytes_cmp unit e.0)) _ below)

joined : (state : State) (n h : Bool) (rest : Option State) → (n ≡ true → h ≡ false) → h ≡ is_active (unwrap_or rest Inactive) → ((is_active state && n) || h) ≡ is_active (unwrap_or (cond n (Some state) rest) Inactive)
joined state true h rest lacks is = alone (is_active state) h (lacks refl)
joined state false h rest lacks is = not_named (is_active state) false h refl ∙ is

found_active : (es : List (Name × State)) (unit : Name) → T (is_sorted bytes_cmp es) → has (units_with (listed es)) unit ≡ is_active (unwrap_or (find bytes_cmp unit es) Inactive)
found_active [] unit sorted = refl
found_active (e ∷ es) unit sorted =
    chosen (is_active e.1) (record { unit = e.0; state = e.1 }) (filter (λ one. is_active one.state) (listed es)) unit
    ∙ joined e.1 (is_name unit e.0) (has (units_with (listed es)) unit) (find bytes_cmp unit es)
    (λ is. below_lack es unit (subst (λ name. T (below_all bytes_cmp name es)) (sym (name_exact unit e.0 is)) (left_of _ _ sorted)))
    (found_active es unit (right_of (below_all bytes_cmp e.0 es) _ sorted))

-- a unit is among the active ones where it is active
pub active_listed : (states : UnitStates) (unit : Name) → has (units_with (listed_states states)) unit ≡ is_active (state_of states unit)
active_listed states unit = found_active (entries states) unit (entries_sorted states) ∙ ap (λ (o : Option State). is_active (unwrap_or o Inactive)) (sym (get-entries states unit))

any_of : (p : UnitDecision → Bool) (f : Name → UnitDecision) (list : List UnitState) → list_any p (map (λ (one : UnitState). f one.unit) list) ≡ list_any (λ unit. p (f unit)) (map (λ (one : UnitState). one.unit) list)
any_of p f [] = refl
any_of p f (one ∷ list) = ap (λ b. p (f one.unit) || b) (any_of p f list)

pub one_of : (test : Name → Bool) (names : List Name) → list_any test names ≡ true → (unit : Name) × (has names unit ≡ true) × (test unit ≡ true)
one_of test [] found = absurd cc
one_of test (name ∷ names) found =
    elim (or_cases (test name) (list_any test names) found) [
      | inl holds ↦ (name, or_left (is_name name name) (has names name) (name_itself name), holds)
      | inr more ↦
          let one = one_of test names more in
          (one.0, or_right (is_name one.0 name) (has names one.0) one.1, one.2)
    ]

-- what holds of a decision holds of the one on an active unit
pub decision_from : (situation : Situation) (states : UnitStates) (p : UnitDecision → Bool) → list_any p (decisions_of situation states) ≡ true → (unit : Name) × (state_of states unit ≡ Active) × (p (decision_of situation unit) ≡ true)
decision_from situation states p found =
    let one = one_of (λ unit. p (decision_of situation unit)) (units_with (listed_states states)) (sym (any_of p (decision_of situation) (filter (λ one. is_active one.state) (listed_states states))) ∙ found) in
    (one.0, active_from_test (state_of states one.0) (sym (active_listed states one.0) ∙ one.1), one.2)

-- on each active unit there is a decision
pub decision_to : (situation : Situation) (states : UnitStates) (p : UnitDecision → Bool) (unit : Name) → state_of states unit ≡ Active → p (decision_of situation unit) ≡ true → list_any p (decisions_of situation states) ≡ true
decision_to situation states p unit active holds =
    any_of p (decision_of situation) (filter (λ one. is_active one.state) (listed_states states))
    ∙ passes_among (λ unit. p (decision_of situation unit)) (units_with (listed_states states)) unit (active_listed states unit ∙ ap is_active active) holds
