-- Something is owed in each world.
use Rattle.std.proofs.Common.{◌≡◌, ◌||◌, ◌&&◌, ◌++◌, ◌∷◌, Bool, true, false, List, Option, filter, flat_map, refl, sym, ap, subst, ◌∙◌, inl, inr}
use Rattle.std.specs.List.{list_any}
use Rattle.std.proofs.lemmas.Bool.{and_from, and_parts, or_cases, or_left, or_right}
use Rattle.std.proofs.lemmas.List.Kept.{IsStrictlySortedBy-filter}
use Rattle.host_trait.specs.Manager.{is_active}
use Rattle.host_trait.specs.States.{UnitStates, listed_states, state_of}
use Rattle.host_trait.specs.World.{Leaves, bytes_cmp}
use Rattle.host_trait.proofs.NameOrder.{has_filter}
use Rattle.host_trait.proofs.StateMaps.{active_from_test}
use Rattle.log_text.specs.declared.lists.Lists.{Lists}
use Rattle.log_text.specs.declared.lists.Which.{Which}
use Rattle.log_text.specs.declared.lists.Which.TheVariants.{Starts}
use Rattle.log_text.specs.Lists.{list_names, with_list}
use Rattle.log_text.proofs.WhichLemmas.{lists_with, names_with}
use Rattle.owed_lists.proofs.OrderLemmas.{has_ordered, ordered, ordered_sorted}
use Rattle.owed_plan.specs.declared.deciding.UnitDecision.{UnitDecision}
use Rattle.owed_plan.specs.declared.owed.Owed.{Owed}
use Rattle.owed_plan.specs.Collected.{AreBySelf, IsCollected, IsListBy, comes_up, defined, is_by_self}
use Rattle.owed_plan.specs.Decisions.{Situation, decisions_of, is_stopped, leaves, puts, stops, wakes}
use Rattle.owed_plan.specs.Lists.{is_put, pending}
use Rattle.owed_plan.specs.Owed.{IsPlan}
use Rattle.owed_plan.specs.Pull.{IsRoot, Running, Pending, Pulled}
use Rattle.owed_plan.specs.Systems.{Systems, systems_at}
use Rattle.owed_plan.proofs.ActiveLemmas.{active_listed, units_with}
use Rattle.owed_plan.proofs.PlanLemmas.{filter_parts, is_plan, situation_in}
use Rattle.owed_plan.proofs.ReachLemmas.{reached_list}
use Rattle.owed_plan.proofs.SystemLemmas.{guarded}
use Rattle.owed_plan.proofs.WantedLemmas.{all_wanted, wanted_among}
use Rattle.switch_names.specs.declared.unit_kind.UnitKind.TheVariants.{Target}
use Rattle.switch_names.specs.Names.{IsListOf, Name, has, is_name}
use Rattle.unit_decide.specs.Kinds.{is_kind}
use Rattle.unit_decide.proofs.TableLemmas.{target_from_test}
use Rattle.switch_names.specs.UnitName.{is_unit}
use Rattle.unit_defs.specs.Units.{wanted_of}
use Rattle.unit_defs.proofs.FirstFaultLemmas.{has_by_test}
use Rattle.unit_defs.proofs.NameLemmas.{has-append}

only : (test listed : Bool) → (test ≡ true → listed ≡ true) → (test && listed) ≡ test
only true listed is = is refl
only false listed is = refl

in_first : (names more : List Name) (unit : Name) → has names unit ≡ true → has (names ++ more) unit ≡ true
in_first names more unit found = has-append names more unit ∙ or_left (has names unit) (has more unit) found

in_second : (names more : List Name) (unit : Name) → has more unit ≡ true → has (names ++ more) unit ≡ true
in_second names more unit found = has-append names more unit ∙ or_right (has names unit) (has more unit) found

-- the names among these that pass a test, in order
abbrev passing : List Name → (Name → Bool) → List Name
passing names test = filter test (ordered names)

-- they are all that pass it, where these have all of them
all_passing : (names : List Name) (test : Name → Bool) → ((unit : Name) → test unit ≡ true → has names unit ≡ true) → IsListBy (passing names test) test
all_passing names test among = record {
  sorted = IsStrictlySortedBy-filter bytes_cmp test (ordered names) (ordered_sorted names);
  exact = λ unit. has_filter test (ordered names) unit ∙ ap (λ b. test unit && b) (has_ordered names unit) ∙ only (test unit) (has names unit) (among unit);
}

-- ---- the units that a decision names

abbrev named_by : UnitDecision → List Name
named_by decision = decision.unit ∷ decision.live

own_unit : (is : Bool) (unit : Name) (decision : UnitDecision) → (is && is_name unit decision.unit) ≡ true → has (named_by decision) unit ≡ true
own_unit is unit decision both = or_left (is_name unit decision.unit) (has decision.live unit) (and_parts is (is_name unit decision.unit) both).1

live_unit : (unit : Name) (decision : UnitDecision) → has decision.live unit ≡ true → has (named_by decision) unit ≡ true
live_unit unit decision live = or_right (is_name unit decision.unit) (has decision.live unit) live

stop_named : (situation : Situation) (unit : Name) (decision : UnitDecision) → stops situation unit decision ≡ true → has (named_by decision) unit ≡ true
stop_named situation unit decision is =
    elim (or_cases (is_stopped decision.decision && is_name unit decision.unit) (has (filter (λ socket. is_active (situation.states socket)) decision.live) unit) is) [
      | inl own ↦ own_unit (is_stopped decision.decision) unit decision own
      | inr live ↦ live_unit unit decision (filter_parts (λ socket. is_active (situation.states socket)) decision.live unit live).1
    ]

-- ---- what is owed

module _ (systems : Systems) (states : UnitStates) (lists : Lists) where
  abbrev here : Situation
  here = situation_in systems states lists

  abbrev decided : List UnitDecision
  decided = decisions_of here states

  abbrev concerned : List Name
  concerned = flat_map named_by decided

  given : (test : UnitDecision → Bool) (unit : Name) → ((decision : UnitDecision) → test decision ≡ true → has (named_by decision) unit ≡ true) → list_any test decided ≡ true → has concerned unit ≡ true
  given test unit names found = has_by_test test named_by unit names decided found

  given_or_listed : (test : UnitDecision → Bool) (unit : Name) (listed : List Name) → ((decision : UnitDecision) → test decision ≡ true → has (named_by decision) unit ≡ true) →
      (list_any test decided || has (defined here listed) unit) ≡ true → has (concerned ++ listed) unit ≡ true
  given_or_listed test unit listed names is =
      elim (or_cases (list_any test decided) (has (defined here listed) unit) is) [
        | inl found ↦ in_first concerned listed unit (given test unit names found)
        | inr found ↦ in_second concerned listed unit (filter_parts (λ name. (systems.facts name).in_new) listed unit found).1
      ]

  module _ (pulled : List Name) where
    abbrev stops_test : Name → Bool
    stops_test unit = list_any (stops here unit) decided

    abbrev by_self_test : Which → Name → Bool
    by_self_test = is_by_self here decided lists

    abbrev own_names : Which → List Name
    own_names which = passing (concerned ++ list_names lists which) (by_self_test which)

    abbrev own : Lists
    own = lists_with own_names

    by_selves : (which : Which) → IsListBy (own_names which) (by_self_test which)
    by_selves which =
        all_passing (concerned ++ list_names lists which) (by_self_test which)
        (λ unit. given_or_listed (puts which unit) unit (list_names lists which) (λ decision. own_unit (is_put which decision.decision) unit decision))

    are_own : AreBySelf here decided lists own
    are_own which = subst (λ (names : List Name). IsListBy names (by_self_test which)) (sym (names_with own_names which)) (by_selves which)

    abbrev up_test : Name → Bool
    up_test = comes_up here (passing concerned stops_test) own

    abbrev starts_test : Name → Bool
    starts_test unit = (has own.starts unit || list_any (wakes unit) decided) || has (filter up_test pulled) unit

    abbrev left_test : Name → Bool
    left_test unit = list_any (leaves unit) decided

    abbrev owed : Owed
    owed = record {
      stops = passing concerned stops_test;
      lists = with_list own Starts (passing ((own.starts ++ concerned) ++ pulled) starts_test);
      left = passing concerned left_test;
    }

    starts_among : (unit : Name) → starts_test unit ≡ true → has ((own.starts ++ concerned) ++ pulled) unit ≡ true
    starts_among unit is =
        elim (or_cases (has own.starts unit || list_any (wakes unit) decided) (has (filter up_test pulled) unit) is) [
          | inl early ↦ elim (or_cases (has own.starts unit) (list_any (wakes unit) decided) early) [
            | inl by_self ↦ in_first (own.starts ++ concerned) pulled unit (in_first own.starts concerned unit by_self)
            | inr woken ↦ in_first (own.starts ++ concerned) pulled unit (in_second own.starts concerned unit (given (wakes unit) unit (live_unit unit) woken))
          ]
          | inr pull ↦ in_second (own.starts ++ concerned) pulled unit (filter_parts up_test pulled unit pull).1
        ]

    collected : IsCollected here decided lists pulled owed
    collected = record {
      own = own;
      are_own = are_own;
      stops = all_passing concerned stops_test (λ unit. given (stops here unit) unit (stop_named here unit));
      starts = all_passing ((own.starts ++ concerned) ++ pulled) starts_test starts_among;
      others = refl;
      left = all_passing concerned left_test (λ unit. given (leaves unit) unit (λ decision. own_unit decision.is_left unit decision));
    }

  -- ---- the pull

  abbrev defined_target : Name → Bool
  defined_target unit = (systems.facts unit).in_new && is_kind (systems.facts unit).kind Target

  abbrev may_run : Name → Bool
  may_run unit = is_active (state_of states unit) && (systems.facts unit).may_start

  abbrev root_test : Name → Bool
  root_test unit = defined_target unit && (may_run unit || has (pending lists) unit)

  root_from : (unit : Name) → root_test unit ≡ true → IsRoot systems (state_of states) lists unit
  root_from unit is =
      let parts = and_parts (defined_target unit) (may_run unit || has (pending lists) unit) is in
      let both = and_parts (systems.facts unit).in_new (is_kind (systems.facts unit).kind Target) parts.0 in
      elim (or_cases (may_run unit) (has (pending lists) unit) parts.1) [
        | inl run ↦
            let up = and_parts (is_active (state_of states unit)) (systems.facts unit).may_start run in
            Running both.0 (target_from_test (systems.facts unit).kind both.1) (active_from_test (state_of states unit) up.0) up.1
        | inr waits ↦ Pending both.0 (target_from_test (systems.facts unit).kind both.1) waits
      ]

  root_to : (unit : Name) → IsRoot systems (state_of states) lists unit → root_test unit ≡ true
  root_to unit (Running defined target active may) =
      and_from (defined_target unit) (may_run unit || has (pending lists) unit)
      (and_from (systems.facts unit).in_new (is_kind (systems.facts unit).kind Target) defined (ap (λ k. is_kind k Target) target))
      (or_left (may_run unit) (has (pending lists) unit) (and_from (is_active (state_of states unit)) (systems.facts unit).may_start (ap is_active active) may))
  root_to unit (Pending defined target waits) =
      and_from (defined_target unit) (may_run unit || has (pending lists) unit)
      (and_from (systems.facts unit).in_new (is_kind (systems.facts unit).kind Target) defined (ap (λ k. is_kind k Target) target))
      (or_right (may_run unit) (has (pending lists) unit) waits)

  module _ (wants : List Name) (wanted_in : (by unit : Name) → has (systems.wanted by) unit ≡ true → has wants unit ≡ true) where
    abbrev active : List Name
    active = units_with (listed_states states)

    abbrev all : List Name
    all = (active ++ pending lists) ++ wants

    root_in : (unit : Name) → IsRoot systems (state_of states) lists unit → has all unit ≡ true
    root_in unit (Running defined target up may) = in_first (active ++ pending lists) wants unit (in_first active (pending lists) unit (active_listed states unit ∙ ap is_active up))
    root_in unit (Pending defined target waits) = in_first (active ++ pending lists) wants unit (in_second active (pending lists) unit waits)

    pulled_list : (names : List Name) × IsListOf names (Pulled systems (state_of states) lists)
    pulled_list =
        reached_list systems.wanted (IsRoot systems (state_of states) lists) root_test all (λ unit. (root_from unit, root_to unit)) root_in
        (λ by unit found. in_second (active ++ pending lists) wants unit (wanted_in by unit found))

    pub some_owed : (owed : Owed) × IsPlan systems (state_of states) lists owed
    some_owed = (owed pulled_list.0, is_plan systems states lists pulled_list.0 (owed pulled_list.0) pulled_list.1 (collected pulled_list.0))

-- something is owed, given any states and lists
pub plan_at : (leaves : Leaves) (old : Option Name) (new : Name) (states : UnitStates) (lists : Lists) → (owed : Owed) × IsPlan (systems_at leaves old new) (state_of states) lists owed
plan_at leaves old new states lists =
    some_owed (systems_at leaves old new) states lists (all_wanted leaves new)
    (λ by unit found. wanted_among leaves new by unit (guarded (is_unit by) (wanted_of leaves new by) unit found))
