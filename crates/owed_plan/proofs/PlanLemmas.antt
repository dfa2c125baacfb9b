-- What is collected is what is owed.
use Rattle.std.proofs.Common.{◌≡◌, ◌≢◌, ◌↔◌, ◌||◌, ◌&&◌, Bool, true, false, List, [], filter, not, if◌then◌else◌, refl, sym, ap, subst, ◌∙◌, inl, inr}
use Rattle.std.specs.List.{list_any}
use Rattle.std.proofs.lemmas.Bool.{and_from, and_parts, false_from_ne_true, both_ways, not-true, not_from_false, or_cases, or_left, or_right}
use Rattle.host_trait.specs.States.{UnitStates, state_of}
use Rattle.host_trait.specs.declared.unit_state.State.TheVariants.{Active}
use Rattle.log_text.specs.declared.lists.Lists.{Lists}
use Rattle.log_text.specs.declared.lists.Which.{Which}
use Rattle.log_text.specs.declared.lists.Which.TheVariants.{Starts}
use Rattle.log_text.specs.Lists.{list_names}
use Rattle.owed_plan.specs.Collected.{IsCollected, IsListBy, comes_up, defined, is_by_self, is_socketed}
use Rattle.host_trait.specs.Manager.{is_active}
use Rattle.owed_plan.specs.Lists.{OnList, ToStop, is_listed, is_live, is_put}
use Rattle.owed_plan.specs.Owed.{Activates, Decides, IsBySelf, IsForOthers, IsLeft, IsOwed, IsPlan, Stops, Waits, has_live}
use Rattle.owed_plan.specs.Pull.{Pulled}
use Rattle.owed_plan.specs.Decisions.{Situation, is_left, is_live_socket, is_nothing, is_socket_started, is_stopped, leaves, live_sockets, puts, decisions_of, stops, wakes}
use Rattle.owed_plan.specs.Systems.{IsSocketed, Systems}
use Rattle.owed_plan.specs.declared.owed.Owed.{Owed}
use Rattle.owed_plan.specs.declared.deciding.UnitDecision.{UnitDecision}
use Rattle.owed_plan.proofs.ActiveLemmas.{one_of, decision_from, decision_to}
use Rattle.owed_plan.proofs.KindLemmas.{listed_on, on_list, starts_or_other}
use Rattle.owed_plan.proofs.TableLemmas.{other_names}
use Rattle.switch_names.specs.Names.{IsListOf, Name, has, is_name}
use Rattle.switch_names.specs.declared.unit_kind.UnitKind.TheVariants.{Service, Target}
use Rattle.unit_decide.specs.Decision.{decide}
use Rattle.unit_decide.specs.Kinds.{is_kind, is_same}
use Rattle.unit_decide.specs.declared.decision.Decision.{Decision}
use Rattle.unit_decide.specs.declared.decision.Decision.TheVariants.{Nothing, SocketStart, Stop, StopStart}
use Rattle.unit_decide.specs.declared.facts.Facts.{Facts}
use Rattle.unit_decide.proofs.TableLemmas.{service_from_test, socket_start_more}
use Rattle.host_trait.proofs.NameOrder.{name_exact, name_itself, passes_among, has_filter}
use Rattle.host_trait.proofs.StateMaps.{active_from_test}

-- the systems, the states, and what the lists say
abbrev pub situation_in : Systems → UnitStates → Lists → Situation
situation_in systems states lists = record { systems = systems; states = state_of states; waits = has lists.starts }

socket_start_from : (d : Decision) → is_socket_started d ≡ true → d ≡ SocketStart
socket_start_from SocketStart is = refl
socket_start_from _ is = absurd cc

nothing_from : (d : Decision) → is_nothing d ≡ true → d ≡ Nothing
nothing_from Nothing is = refl
nothing_from _ is = absurd cc

-- a name is found among those that pass a test
pub filter_parts : (test : Name → Bool) (names : List Name) (unit : Name) → has (filter test names) unit ≡ true → (test unit ≡ true) × (has names unit ≡ true)
filter_parts test names unit found = and_parts (test unit) (has names unit) (sym (has_filter test names unit) ∙ found)

filter_from : (test : Name → Bool) (names : List Name) (unit : Name) → test unit ≡ true → has names unit ≡ true → has (filter test names) unit ≡ true
filter_from test names unit passes found = has_filter test names unit ∙ and_from (test unit) (has names unit) passes found

-- a list by a test is a list of what has P where the test tells that
list_of : (names : List Name) (test : Name → Bool) (P : Name → Type 0) → IsListBy names test → ((unit : Name) → (test unit ≡ true) ↔ P unit) → IsListOf names P
list_of names test P is same = record {
  sorted = is.sorted;
  exact = λ unit. (λ found. (same unit).0 (sym (is.exact unit) ∙ found), λ holds. is.exact unit ∙ (same unit).1 holds);
}

module _ (systems : Systems) (states : UnitStates) (lists : Lists) where
  abbrev live_test : Name → Bool
  live_test = is_live_socket (situation_in systems states lists)

  abbrev decision_on : Name → Decision
  decision_on unit = decide (systems.facts unit) (has_live systems (state_of states) lists unit)

  -- the live sockets of a decision are those to which its unit is left
  live_from : (unit socket : Name) → state_of states unit ≡ Active → has (live_sockets (situation_in systems states lists) unit) socket ≡ true → Activates systems (state_of states) lists unit socket
  live_from unit socket active found =
      elim (is_socket_started (decide (systems.facts unit) true))
      as (λ b. is_socket_started (decide (systems.facts unit) true) ≡ b → has (if b then filter live_test (systems.sockets unit) else []) socket ≡ true → Activates systems (state_of states) lists unit socket) [
        | true ↦ λ is found.
            let parts = filter_parts live_test (systems.sockets unit) socket found in
            let both = and_parts (systems.facts socket).in_new (is_live (state_of states) lists socket) parts.0 in
            let live : has_live systems (state_of states) lists unit ≡ true = passes_among live_test (systems.sockets unit) socket parts.1 parts.0 in
            (record { active = active; row = ap (decide (systems.facts unit)) live ∙ socket_start_from _ is }, (parts.1, both.0), both.1)
        | false ↦ λ is found. absurd (both_ways false refl found)
      ] refl found

  live_to : (unit socket : Name) → Activates systems (state_of states) lists unit socket → has (live_sockets (situation_in systems states lists) unit) socket ≡ true
  live_to unit socket activates =
      let started = socket_start_more (systems.facts unit) (has_live systems (state_of states) lists unit) true (λ e. refl) activates.0.row in
      ap (λ d. has (if is_socket_started d then filter live_test (systems.sockets unit) else []) socket) started
      ∙ filter_from live_test (systems.sockets unit) socket (and_from (systems.facts socket).in_new (is_live (state_of states) lists socket) activates.1.1 activates.2) activates.1.0

  -- a decision that acts on its own unit
  own_from : (test : Decision → Bool) (P : Name → Type 0) (unit by : Name) → ((d : Decision) → decision_on by ≡ d → test d ≡ true → P by) → (test (decision_on by) && is_name unit by) ≡ true → P unit
  own_from test P unit by gives both =
      let parts = and_parts (test (decision_on by)) (is_name unit by) both in
      subst P (sym (name_exact unit by parts.1)) (gives (decision_on by) refl parts.0)

  own_to : (test : Decision → Bool) (unit : Name) (d : Decision) → decision_on unit ≡ d → test d ≡ true → (test (decision_on unit) && is_name unit unit) ≡ true
  own_to test unit d row is = and_from (test (decision_on unit)) (is_name unit unit) (ap test row ∙ is) (name_itself unit)

  stops_by : (by : Name) → state_of states by ≡ Active → (d : Decision) → decision_on by ≡ d → is_stopped d ≡ true → Stops systems (state_of states) lists by
  stops_by by active Stop row is = Stops.ByStop (record { active = active; row = row })
  stops_by by active StopStart row is = Stops.ByStopStart (record { active = active; row = row })
  stops_by by active SocketStart row is = Stops.BySocketStart (record { active = active; row = row })
  stops_by by active _ row is = absurd cc

  abbrev here : Situation
  here = situation_in systems states lists

  abbrev given : (UnitDecision → Bool) → Bool
  given p = list_any p (decisions_of here states)

  stops_from : (unit : Name) → given (stops here unit) ≡ true → Stops systems (state_of states) lists unit
  stops_from unit found =
      let one = decision_from here states (stops here unit) found in
      elim (or_cases (is_stopped (decision_on one.0) && is_name unit one.0) (has (filter (λ socket. is_active (state_of states socket)) (live_sockets here one.0)) unit) one.2) [
        | inl own ↦ own_from is_stopped (Stops systems (state_of states) lists) unit one.0 (stops_by one.0 one.1) own
        | inr socket ↦
            let parts = filter_parts (λ socket. is_active (state_of states socket)) (live_sockets here one.0) unit socket in
            Stops.ByService one.0 (live_from one.0 unit one.1 parts.1) (active_from_test (state_of states unit) parts.0)
      ]

  own_stop : (unit : Name) (d : Decision) → Decides systems (state_of states) lists unit d → is_stopped d ≡ true → given (stops here unit) ≡ true
  own_stop unit d decides is =
      decision_to here states (stops here unit) unit decides.active
      (or_left (is_stopped (decision_on unit) && is_name unit unit) (has (filter (λ socket. is_active (state_of states socket)) (live_sockets here unit)) unit) (own_to is_stopped unit d decides.row is))

  stops_to : (unit : Name) → Stops systems (state_of states) lists unit → given (stops here unit) ≡ true
  stops_to unit (Stops.ByStop decides) = own_stop unit Stop decides refl
  stops_to unit (Stops.ByStopStart decides) = own_stop unit StopStart decides refl
  stops_to unit (Stops.BySocketStart decides) = own_stop unit SocketStart decides refl
  stops_to unit (Stops.ByService service activates active) =
      decision_to here states (stops here unit) service activates.0.active
      (or_right (is_stopped (decision_on service) && is_name unit service) (has (filter (λ socket. is_active (state_of states socket)) (live_sockets here service)) unit)
      (filter_from (λ socket. is_active (state_of states socket)) (live_sockets here service) unit (ap is_active active) (live_to service unit activates)))

  -- ---- the units that are on a list by themselves

  abbrev by_self_test : Which → Name → Bool
  by_self_test = is_by_self here (decisions_of here states) lists

  by_self_from : (which : Which) (unit : Name) → by_self_test which unit ≡ true → IsBySelf systems (state_of states) lists which unit
  by_self_from which unit found =
      elim (or_cases (given (puts which unit)) (has (defined here (list_names lists which)) unit) found) [
        | inl own ↦
            let one = decision_from here states (puts which unit) own in
            own_from (is_put which) (IsBySelf systems (state_of states) lists which) unit one.0
            (λ d row is. IsBySelf.ByDecision d is (record { active = one.1; row = row })) one.2
        | inr listed ↦
            let parts = filter_parts (λ name. (systems.facts name).in_new) (list_names lists which) unit listed in
            IsBySelf.ByList parts.1 parts.0
      ]

  by_self_to : (which : Which) (unit : Name) → IsBySelf systems (state_of states) lists which unit → by_self_test which unit ≡ true
  by_self_to which unit (IsBySelf.ByDecision d is decides) =
      or_left (given (puts which unit)) (has (defined here (list_names lists which)) unit)
      (decision_to here states (puts which unit) unit decides.active (own_to (is_put which) unit d decides.row is))
  by_self_to which unit (IsBySelf.ByList listed is) =
      or_right (given (puts which unit)) (has (defined here (list_names lists which)) unit) (filter_from (λ name. (systems.facts name).in_new) (list_names lists which) unit is listed)

  socketed_from : (unit : Name) → is_socketed systems unit ≡ true → IsSocketed systems unit
  socketed_from unit is =
      let parts = and_parts (is_kind (systems.facts unit).kind Service) (list_any (λ socket. (systems.facts socket).in_new) (systems.sockets unit)) is in
      let one = one_of (λ socket. (systems.facts socket).in_new) (systems.sockets unit) parts.1 in
      (service_from_test (systems.facts unit).kind parts.0, (one.0, (one.1, one.2)))

  socketed_to : (unit : Name) → IsSocketed systems unit → is_socketed systems unit ≡ true
  socketed_to unit is =
      and_from (is_kind (systems.facts unit).kind Service) (list_any (λ socket. (systems.facts socket).in_new) (systems.sockets unit)) (ap (λ kind. is_kind kind Service) is.0)
      (passes_among (λ socket. (systems.facts socket).in_new) (systems.sockets unit) is.1.0 is.1.1.0 is.1.1.1)

  left_from : (unit : Name) → given (leaves unit) ≡ true → IsLeft systems (state_of states) lists unit
  left_from unit found =
      let one = decision_from here states (leaves unit) found in
      let f : Facts = systems.facts one.0 in
      let d : Decision = decision_on one.0 in
      let named = and_parts (is_left f d) (is_name unit one.0) one.2 in
      let last = and_parts (is_nothing d && not (is_kind f.kind Target) && f.in_old && f.in_new) (not (is_same f.outcome)) named.0 in
      let third = and_parts (is_nothing d && not (is_kind f.kind Target) && f.in_old) f.in_new last.0 in
      let second = and_parts (is_nothing d && not (is_kind f.kind Target)) f.in_old third.0 in
      let first = and_parts (is_nothing d) (not (is_kind f.kind Target)) second.0 in
      subst (IsLeft systems (state_of states) lists) (sym (name_exact unit one.0 named.1)) (record {
        decided = record { active = one.1; row = nothing_from d first.0 };
        no_target = not-true (is_kind f.kind Target) first.1;
        in_old = second.1;
        in_new = third.1;
        changed = not-true (is_same f.outcome) last.1;
      })

  left_to : (unit : Name) → IsLeft systems (state_of states) lists unit → given (leaves unit) ≡ true
  left_to unit left =
      let f : Facts = systems.facts unit in
      let d : Decision = decision_on unit in
      let first = and_from (is_nothing d) (not (is_kind f.kind Target)) (ap is_nothing left.decided.row) (not_from_false (is_kind f.kind Target) left.no_target) in
      let second = and_from (is_nothing d && not (is_kind f.kind Target)) f.in_old first left.in_old in
      let third = and_from (is_nothing d && not (is_kind f.kind Target) && f.in_old) f.in_new second left.in_new in
      let last = and_from (is_nothing d && not (is_kind f.kind Target) && f.in_old && f.in_new) (not (is_same f.outcome)) third (not_from_false (is_same f.outcome) left.changed) in
      decision_to here states (leaves unit) unit left.decided.active (and_from (is_left f d) (is_name unit unit) last (name_itself unit))

  goes_up : (b h : Bool) → (b ≡ true → h ≡ true) → (not b || h) ≡ true
  goes_up true h stops = stops refl
  goes_up false h stops = refl

  -- ---- the lists

  module _ (pulled : List Name) (owed : Owed) (is_pulled : IsListOf pulled (Pulled systems (state_of states) lists)) (is : IsCollected here (decisions_of here states) lists pulled owed) where
    own_list : (which : Which) → IsListOf (list_names is.own which) (IsBySelf systems (state_of states) lists which)
    own_list which = list_of (list_names is.own which) _ _ (is.are_own which) (λ unit. (by_self_from which unit, by_self_to which unit))

    -- a unit that is on a list by itself is on one of the own lists
    listed_from : (unit : Name) → is_listed is.own unit ≡ true → (which : Which) × IsBySelf systems (state_of states) lists which unit
    listed_from unit found = let one = on_list is.own unit found in (one.0, ((own_list one.0).exact unit).0 one.1)

    listed_to : (which : Which) (unit : Name) → IsBySelf systems (state_of states) lists which unit → is_listed is.own unit ≡ true
    listed_to which unit by_self = listed_on is.own unit which (((own_list which).exact unit).1 by_self)

    abbrev up_test : Name → Bool
    up_test = comes_up here owed.stops is.own

    pull_from : (unit : Name) → has (filter up_test pulled) unit ≡ true → IsForOthers systems (state_of states) lists unit
    pull_from unit found =
        let parts = filter_parts up_test pulled unit found in
        let second = and_parts ((not (is_active (state_of states unit)) || has owed.stops unit) && not (is_listed is.own unit)) (not (is_socketed systems unit)) parts.0 in
        let first = and_parts (not (is_active (state_of states unit)) || has owed.stops unit) (not (is_listed is.own unit)) second.0 in
        IsForOthers.ByPull ((is_pulled.exact unit).0 parts.1)
        (λ active.
        elim (or_cases (not (is_active (state_of states unit))) (has owed.stops unit) first.0) [
          | inl other ↦ absurd (both_ways (is_active (state_of states unit)) (not-true (is_active (state_of states unit)) other) (ap is_active active))
          | inr stopped ↦ stops_from unit (sym (is.stops.exact unit) ∙ stopped)
        ])
        (λ which by_self. both_ways (is_listed is.own unit) (not-true (is_listed is.own unit) first.1) (listed_to which unit by_self))
        (λ socketed. both_ways (is_socketed systems unit) (not-true (is_socketed systems unit) second.1) (socketed_to unit socketed))

    pull_to : (unit : Name) → Pulled systems (state_of states) lists unit → (state_of states unit ≡ Active → Stops systems (state_of states) lists unit) →
        ((which : Which) → ¬ IsBySelf systems (state_of states) lists which unit) → ¬ IsSocketed systems unit → has (filter up_test pulled) unit ≡ true
    pull_to unit reached stops by_self socketed =
        let first = goes_up (is_active (state_of states unit)) (has owed.stops unit) (λ active. is.stops.exact unit ∙ stops_to unit (stops (active_from_test (state_of states unit) active))) in
        let listed = false_from_ne_true (is_listed is.own unit) (λ found. let one = listed_from unit found in by_self one.0 one.1) in
        let socket = false_from_ne_true (is_socketed systems unit) (λ found. socketed (socketed_from unit found)) in
        let second = and_from (not (is_active (state_of states unit)) || has owed.stops unit) (not (is_listed is.own unit)) first (not_from_false (is_listed is.own unit) listed) in
        let last = and_from ((not (is_active (state_of states unit)) || has owed.stops unit) && not (is_listed is.own unit)) (not (is_socketed systems unit)) second
        (not_from_false (is_socketed systems unit) socket) in
        filter_from up_test pulled unit last ((is_pulled.exact unit).1 reached)

    abbrev first_starts : Name → Bool
    first_starts unit = has is.own.starts unit || given (wakes unit)

    abbrev start_test : Name → Bool
    start_test unit = first_starts unit || has (filter up_test pulled) unit

    woken_from : (unit : Name) → given (wakes unit) ≡ true → IsForOthers systems (state_of states) lists unit
    woken_from unit found = let one = decision_from here states (wakes unit) found in IsForOthers.ByService one.0 (live_from one.0 unit one.1 one.2)

    starts_from : (unit : Name) → start_test unit ≡ true → Waits systems (state_of states) lists Starts unit
    starts_from unit found =
        elim (or_cases (first_starts unit) (has (filter up_test pulled) unit) found) [
          | inl early ↦ elim (or_cases (has is.own.starts unit) (given (wakes unit)) early) [
            | inl own ↦ Waits.BySelf (((own_list Starts).exact unit).0 own)
            | inr woken ↦ Waits.ForOthers refl (woken_from unit woken)
          ]
          | inr reached ↦ Waits.ForOthers refl (pull_from unit reached)
        ]

    others_to : (unit : Name) → IsForOthers systems (state_of states) lists unit → start_test unit ≡ true
    others_to unit (IsForOthers.ByService service activates) =
        or_left (first_starts unit) (has (filter up_test pulled) unit)
        (or_right (has is.own.starts unit) (given (wakes unit)) (decision_to here states (wakes unit) service activates.0.active (live_to service unit activates)))
    others_to unit (IsForOthers.ByPull reached stops by_self socketed) =
        or_right (first_starts unit) (has (filter up_test pulled) unit) (pull_to unit reached stops by_self socketed)

    starts_to : (unit : Name) → Waits systems (state_of states) lists Starts unit → start_test unit ≡ true
    starts_to unit (Waits.BySelf by_self) =
        or_left (first_starts unit) (has (filter up_test pulled) unit) (or_left (has is.own.starts unit) (given (wakes unit)) (((own_list Starts).exact unit).1 by_self))
    starts_to unit (Waits.ForOthers same others) = others_to unit others

    -- what waits on another list is on it by itself
    other_waits : (which : Which) → which ≢ Starts → (unit : Name) → Waits systems (state_of states) lists which unit → IsBySelf systems (state_of states) lists which unit
    other_waits which other unit (Waits.BySelf by_self) = by_self
    other_waits which other unit (Waits.ForOthers same others) = absurd (other same)

    abbrev IsWaited : Which → Type 0
    IsWaited which = IsListOf (list_names owed.lists which) (Waits systems (state_of states) lists which)

    starts_waited : IsWaited Starts
    starts_waited = list_of owed.lists.starts _ _ is.starts (λ unit. (starts_from unit, starts_to unit))

    other_waited : (which : Which) → which ≢ Starts → IsWaited which
    other_waited which other =
        subst (λ (names : List Name). IsListOf names (Waits systems (state_of states) lists which))
        (sym (ap (λ (all : Lists). list_names all which) is.others ∙ other_names is.own owed.lists.starts which other))
        (record {
          sorted = (own_list which).sorted;
          exact = λ unit. (λ found. Waits.BySelf (((own_list which).exact unit).0 found), λ waits. ((own_list which).exact unit).1 (other_waits which other unit waits));
        })

    waited : (which : Which) → IsWaited which
    waited which =
        elim (starts_or_other which) [
          | inl same ↦ subst IsWaited (sym same) starts_waited
          | inr other ↦ other_waited which other
        ]

    pub is_plan : IsPlan systems (state_of states) lists owed
    is_plan = record { is_owed = is_owed; left = list_of owed.left _ _ is.left (λ unit. (left_from unit, left_to unit)) }
      where
        is_owed : IsOwed systems (state_of states) lists owed
        is_owed ToStop = list_of owed.stops _ _ is.stops (λ unit. (stops_from unit, stops_to unit))
        is_owed (OnList which) = waited which

-- what waits for a start by a set does so by the list
seen : (systems : Systems) (states : UnitStates) (lists : Lists) (waiting : List Name) → ((unit : Name) → has waiting unit ≡ has lists.starts unit) →
    record { systems = systems; states = state_of states; waits = has waiting } ≡ situation_in systems states lists
seen systems states lists waiting same = λ i. record { systems = systems; states = state_of states; waits = λ unit. same unit i }

-- what is collected by a set of what waits for a start is the plan
pub planned : (systems : Systems) (states : UnitStates) (lists : Lists) (waiting pulled : List Name) (decisions : List UnitDecision) (owed : Owed) → IsListOf pulled (Pulled systems (state_of states) lists) →
    ((unit : Name) → has waiting unit ≡ has lists.starts unit) → decisions ≡ decisions_of (record { systems = systems; states = state_of states; waits = has waiting }) states →
    IsCollected (record { systems = systems; states = state_of states; waits = has waiting }) decisions lists pulled owed → IsPlan systems (state_of states) lists owed
planned systems states lists waiting pulled decisions owed is_pulled same made is =
    is_plan systems states lists pulled owed is_pulled
    (subst (λ situation. IsCollected situation (decisions_of situation states) lists pulled owed) (seen systems states lists waiting same)
    (subst (λ all. IsCollected (record { systems = systems; states = state_of states; waits = has waiting }) all lists pulled owed) made is))
