-- What a switch enters is about units that it owes something, and pays that.
use Rattle.std.proofs.Common.{◌≡◌, ◌++◌, Bool, true, false, List, [], map, sym, ap, subst, ◌∙◌}
use Rattle.std.proofs.lemmas.Bool.{or_left, or_right}
use Rattle.std.proofs.lemmas.List.{append-nil}
use Rattle.std.proofs.lemmas.List.Folds.{list_any-append}
use Rattle.std.specs.List.{AllByRecursion, flat_map, list_any}
use Rattle.host_trait.specs.declared.entry.Act.{Act}
use Rattle.host_trait.specs.declared.entry.Act.TheVariants.{Stop}
use Rattle.host_trait.specs.declared.entry.Entry.{Entry}
use Rattle.host_trait.specs.declared.unit_state.State.{State}
use Rattle.owed_plan.specs.Law.{stopped}
use Rattle.host_trait.specs.States.{state_of}
use Rattle.host_trait.specs.World.{WorldState}
use Rattle.log_text.specs.declared.lists.Lists.{Lists}
use Rattle.log_text.specs.declared.lists.Which.{Which}
use Rattle.log_text.specs.declared.lists.Which.TheVariants.{Starts}
use Rattle.log_text.specs.Lists.{list_names, with_list}
use Rattle.owed_plan.specs.declared.duty.Duty.{Duty}
use Rattle.owed_plan.specs.declared.owed.Owed.{Owed}
use Rattle.owed_plan.specs.Calls.{act_on, give_order, listed_calls, stop_calls}
use Rattle.owed_plan.specs.Lists.{Debt, OnList, ToStop, owed_names, renews}
use Rattle.owed_plan.specs.Owed.{IsDue, sockets_first}
use Rattle.owed_plan.specs.Systems.{systems_at}
use Rattle.owed_plan.proofs.NameLemmas.{has-sockets_first}
use Rattle.switch_names.specs.Names.{Name, has}
use Rattle.unit_decide.specs.Facts.{unit_kind}
use Rattle.unit_stage.specs.Acts.{entry_of}
use Rattle.unit_stage.specs.End.{entries_by, entries_of}
use Rattle.unit_stage.specs.Order.{ArrangesStarts}
use Rattle.unit_stage.specs.Owes.{IsPaid, Owes, OwesUnit, is_stop, pays}
use Rattle.unit_stage.specs.Plan.{IsOwedIn}
use Rattle.unit_stage.specs.System.{current_system, definitions_of}
use Rattle.unit_stage.proofs.CallingLemmas.{called_among, called_on, is_called}
use Rattle.unit_stage.proofs.ListCallLemmas.{act_by, given_after, given_before, in_any_order, no_stop, turn_split}
use Rattle.unit_stage.proofs.PayLemmas.{all_entries, all_first, all_joined, all_listed, all_of, other_paid, stop_paid}
use Rattle.unit_stage.proofs.WaitingLemmas.{same_waiting}

module _ (start_up : Bool) (system : Name) (lists : Lists) (owed : Owed) (order : List Name) (arranges : ArrangesStarts owed order) (w : WorldState) (owes : IsOwedIn start_up system w lists owed) where
  abbrev states : Name → State
  states = state_of w.manager.states

  abbrev listed : Which → List Duty
  listed = listed_calls owed order states

  abbrev given : List Duty
  given = flat_map listed give_order

  listed_owed : (debt : Debt) (unit : Name) → has (owed_names owed debt) unit ≡ true → OwesUnit start_up system w unit
  listed_owed debt unit found = (debt, (lists, owes.listed, ((owes.is_owed debt).exact unit).0 found))

  -- the acts of a list, on its units in the order of the calls
  abbrev act_of : Which → Name → Act
  act_of which = act_on which states owed.stops

  abbrev names_of : Which → List Name
  names_of which = list_names (with_list owed.lists Starts order) which

  -- ---- some of the calls after the stops

  module _ (made rest : List Duty) (prefix : given ≡ made ++ rest) where
    abbrev entered : List Entry
    entered = entries_by system owed w made

    abbrev stops : List Entry
    stops = map (entry_of w.manager.loaded) (stop_calls owed)

    abbrev more : List Entry
    more = map (entry_of (definitions_of system)) made

    all_made : (P : Duty → Type 0) → ((which : Which) → AllByRecursion P (listed which)) → AllByRecursion P made
    all_made P each = all_first P made rest (subst (AllByRecursion P) prefix (all_listed P listed each give_order))

    no_stops : AllByRecursion (λ call. is_stop call.act ≡ false) made
    no_stops = all_made (λ call. is_stop call.act ≡ false) (λ which.
        all_of (λ call. is_stop call.act ≡ false) (act_of which) (names_of which) (λ unit found. no_stop (renews which) (stopped owed.stops states unit) (act_of which unit) (act_by which states owed.stops unit)))

    all_owed : AllByRecursion (λ (call : Duty). OwesUnit start_up system w call.unit) made
    all_owed = all_made (λ call. OwesUnit start_up system w call.unit) (λ which.
        all_of (λ (call : Duty). OwesUnit start_up system w call.unit) (act_of which) (names_of which) (λ unit found. listed_owed (OnList which) unit (sym (in_any_order owed order arranges which unit) ∙ found)))

    stops_owed : AllByRecursion (λ (call : Duty). OwesUnit start_up system w call.unit) (stop_calls owed)
    stops_owed =
        all_of (λ call. OwesUnit start_up system w call.unit) (λ u. Stop) (sockets_first unit_kind owed.stops)
        (λ unit found. listed_owed ToStop unit (sym (has-sockets_first unit_kind owed.stops unit) ∙ found))

    pub entered_owed : AllByRecursion (λ (entry : Entry). OwesUnit start_up system w entry.unit) entered
    entered_owed =
        all_joined (λ entry. OwesUnit start_up system w entry.unit) stops more
        (all_entries (OwesUnit start_up system w) w.manager.loaded (stop_calls owed) stops_owed)
        (all_entries (OwesUnit start_up system w) (definitions_of system) made all_owed)

    pub paid_by_stop : (unit : Name) → has owed.stops unit ≡ true → IsPaid system ToStop unit entered
    paid_by_stop unit found =
        list_any-append (pays system ToStop unit) stops more
        ∙ or_left (list_any (pays system ToStop unit) stops) (list_any (pays system ToStop unit) more)
        (stop_paid system w.manager.loaded unit (sockets_first unit_kind owed.stops) (has-sockets_first unit_kind owed.stops unit ∙ found))

    pub paid_by_call : (which : Which) (unit : Name) → is_called made unit ≡ true → IsPaid system (OnList which) unit entered
    paid_by_call which unit found =
        list_any-append (pays system (OnList which) unit) stops more
        ∙ or_right (list_any (pays system (OnList which) unit) stops) (list_any (pays system (OnList which) unit) more) (other_paid system which unit made no_stops found)

  -- ---- all of them

  abbrev given_whole : given ≡ given ++ []
  given_whole = sym (append-nil given)

  pub all_entered_owed : AllByRecursion (λ (entry : Entry). OwesUnit start_up system w entry.unit) (entries_of system owed order w)
  all_entered_owed = entered_owed given [] given_whole

  module _ (unit : Name) where
    called : (which : Which) → has (list_names owed.lists which) unit ≡ true → is_called given unit ≡ true
    called which found =
        ap (λ calls. is_called calls unit) (turn_split listed which (listed which) [] (sym (append-nil (listed which))))
        ∙ called_among (flat_map listed (given_before which)) (listed which) (flat_map listed (given_after which)) unit (called_on (act_of which) (names_of which) unit ∙ in_any_order owed order arranges which unit ∙ found)

    paid_in : (debt : Debt) → IsDue (systems_at w.leaves (current_system w.leaves) system) states lists debt unit → IsPaid system debt unit (entries_of system owed order w)
    paid_in ToStop owing = paid_by_stop given [] given_whole unit (((owes.is_owed ToStop).exact unit).1 owing)
    paid_in (OnList which) owing = paid_by_call given [] given_whole which unit (called which (((owes.is_owed (OnList which)).exact unit).1 owing))

  pub all_entered_paid : (debt : Debt) (unit : Name) → Owes start_up system w debt unit → IsPaid system debt unit (entries_of system owed order w)
  all_entered_paid debt unit (other, also, owing) =
      paid_in unit debt (subst (λ (l : Lists). IsDue (systems_at w.leaves (current_system w.leaves) system) states l debt unit) (same_waiting start_up w.leaves system other lists also owes.listed) owing)
