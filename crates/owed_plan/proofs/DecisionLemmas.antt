-- What is decided on a unit, by the live ones among its sockets.
use Rattle.std.proofs.Common.{◌≡◌, ◌==◌, ◌||◌, ◌&&◌, ℕ, suc, Bool, true, false, cond, not, List, [], ◌∷◌, filter, length, if◌then◌else◌, inl, inr, refl, sym, ap, ◌∙◌, arith}
use Rattle.std.proofs.lemmas.Bool.Decides.{nat_tests}
use Rattle.std.specs.List.{list_any}
use Rattle.owed_plan.specs.Decisions.{Situation, has_live_socket, is_left, is_live_socket, is_socket_started, live_sockets, decision_of}
use Rattle.owed_plan.specs.declared.deciding.UnitDecision.{UnitDecision}
use Rattle.switch_names.specs.Names.{Name, has, is_name}
use Rattle.unit_decide.specs.Decision.{decide}
use Rattle.unit_decide.specs.declared.decision.Decision.{Decision}
use Rattle.unit_decide.specs.declared.facts.Facts.{Facts}
use Rattle.unit_decide.proofs.TableLemmas.{same_or_started}

-- a name is added to a set, where it is to be there
pub has_added : (old : List Name) (name unit : Name) (now is_added : Bool) → is_added ≡ true → now ≡ (has old unit || is_name unit name) → now ≡ (has old unit || (is_added && is_name unit name))
has_added old name unit now is_added is added = added ∙ ap (λ b. has old unit || (b && is_name unit name)) (sym is)

positive : (n : ℕ) → not (suc n == 0) ≡ true
positive n = grind (arith, nat_tests)

filled_choice : (b : Bool) (name : Name) (names : List Name) (rest : Bool) → not (length names == 0) ≡ rest → not (length (cond b (name ∷ names) names) == 0) ≡ (b || rest)
filled_choice true name names rest is = positive (length names)
filled_choice false name names rest is = is

-- what passes a test is no empty list where something passes
filled : (test : Name → Bool) (names : List Name) → not (length (filter test names) == 0) ≡ list_any test names
filled test [] = refl
filled test (name ∷ names) = filled_choice (test name) name (filter test names) (list_any test names) (filled test names)

without_sockets : (facts : Facts) (live : Bool) → is_socket_started (decide facts true) ≡ false → decide facts false ≡ decide facts live
without_sockets facts false other = refl
without_sockets facts true other =
    elim (same_or_started facts) [
      | inl same ↦ sym same
      | inr both ↦ absurd (let started : is_socket_started (decide facts true) ≡ true = ap is_socket_started both.0 in cc)
    ]

-- live sockets that make no difference may be left out
same_decision : (facts : Facts) (test : Name → Bool) (sockets : List Name) →
    decide facts (not (length (if is_socket_started (decide facts true) then filter test sockets else []) == 0)) ≡ decide facts (list_any test sockets)
same_decision facts test sockets =
    elim (is_socket_started (decide facts true))
    as (λ b. is_socket_started (decide facts true) ≡ b → decide facts (not (length (if b then filter test sockets else []) == 0)) ≡ decide facts (list_any test sockets)) [
      | true ↦ λ is. ap (decide facts) (filled test sockets)
      | false ↦ λ other. without_sockets facts (list_any test sockets) other
    ] refl

same_row : (situation : Situation) (unit : Name) (facts : Facts) (live : List Name) (empty : Bool) (decision : Decision) → facts ≡ situation.systems.facts unit → live ≡ live_sockets situation unit → empty ≡ (length live == 0) →
    decision ≡ decide facts (not empty) → decision ≡ decide (situation.systems.facts unit) (has_live_socket situation unit)
same_row situation unit facts live empty decision of among none is =
    is ∙ ap (λ b. decide facts (not b)) (none ∙ ap (λ (names : List Name). length names == 0) among) ∙ ap (λ f. decide f (not (length (live_sockets situation unit) == 0))) of
    ∙ same_decision (situation.systems.facts unit) (is_live_socket situation) (situation.systems.sockets unit)

-- what is decided on a unit
pub unit_decided : (situation : Situation) (unit copied : Name) (facts : Facts) (live : List Name) (empty : Bool) (decision : Decision) (left : Bool) → copied ≡ unit → facts ≡ situation.systems.facts unit →
    live ≡ live_sockets situation unit → empty ≡ (length live == 0) → decision ≡ decide facts (not empty) → left ≡ is_left facts decision →
    ◌≡◌ {A = UnitDecision} (record { unit = copied; decision = decision; live = live; is_left = left }) (decision_of situation unit)
unit_decided situation unit copied facts live empty decision left copy of among none is nothing =
    let row = same_row situation unit facts live empty decision of among none is in
    λ i. record {
      unit = copy i;
      decision = row i;
      live = among i;
      is_left = (nothing ∙ ap (λ f. is_left f decision) of ∙ ap (λ d. is_left (situation.systems.facts unit) d) row) i;
    }

-- whether a unit is left to its sockets, by what is read of it
left_as : (situation : Situation) (unit : Name) (facts : Facts) (decision : Decision) (started : Bool) → facts ≡ situation.systems.facts unit → decision ≡ decide facts true →
    started ≡ is_socket_started decision → started ≡ is_socket_started (decide (situation.systems.facts unit) true)
left_as situation unit facts decision started of row is = is ∙ ap is_socket_started row ∙ ap (λ f. is_socket_started (decide f true)) of

-- where a unit is left to its sockets, its live sockets are those of its sockets that are live
pub live_there : (situation : Situation) (unit : Name) (facts : Facts) (decision : Decision) (started : Bool) (sockets among live : List Name) → facts ≡ situation.systems.facts unit → decision ≡ decide facts true →
    started ≡ is_socket_started decision → started ≡ true → sockets ≡ situation.systems.sockets unit → among ≡ sockets → live ≡ filter (is_live_socket situation) among → live ≡ live_sockets situation unit
live_there situation unit facts decision started sockets among live of row is left these same found =
    found ∙ ap (filter (is_live_socket situation)) (same ∙ these)
    ∙ ap (λ b. if b then filter (is_live_socket situation) (situation.systems.sockets unit) else []) (sym left ∙ left_as situation unit facts decision started of row is)

-- elsewhere they make no difference, and none is listed
pub none_live : (situation : Situation) (unit : Name) (facts : Facts) (decision : Decision) (started : Bool) (live : List Name) → facts ≡ situation.systems.facts unit → decision ≡ decide facts true →
    started ≡ is_socket_started decision → started ≡ false → live ≡ [] → live ≡ live_sockets situation unit
none_live situation unit facts decision started live of row is other none =
    none ∙ ap (λ b. if b then filter (is_live_socket situation) (situation.systems.sockets unit) else []) (sym other ∙ left_as situation unit facts decision started of row is)
