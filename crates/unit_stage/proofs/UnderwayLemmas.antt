-- While the calls after the stops are made, a switch of the units is underway.
use Rattle.std.proofs.Common.{◌≡◌, ◌⊎◌, ◌++◌, Bool, List, Some, sym, ap, subst, ◌∙◌, inl, inr}
use Rattle.std.specs.List.{flat_map}
use Rattle.host_trait.specs.declared.entry.Entry.{Entry}
use Rattle.host_trait.specs.declared.unit_state.State.{State}
use Rattle.host_trait.specs.States.{state_of}
use Rattle.host_trait.specs.World.{WorldState}
use Rattle.log_text.specs.declared.lists.Lists.{Lists}
use Rattle.owed_log.specs.Lengths.{AreOwedShort}
use Rattle.owed_plan.specs.Called.{AreCalled, IsOnTheWay}
use Rattle.owed_plan.specs.Called as kinds
use Rattle.owed_plan.specs.declared.duty.Duty.{Duty}
use Rattle.owed_plan.specs.declared.owed.Owed.{Owed}
use Rattle.owed_plan.specs.Calls.{give_order, listed_calls}
use Rattle.owed_plan.specs.FinalStates.{brought_by, final_state}
use Rattle.owed_plan.specs.Law.{stopped}
use Rattle.owed_plan.specs.Lists.{Debt, OnList, ToStop}
use Rattle.owed_plan.specs.Owed.{IsDue, IsOwed}
use Rattle.owed_plan.specs.Steady.{IsSteady}
use Rattle.owed_plan.specs.Systems.{Systems, Texts, systems_at, systems_of, text_at}
use Rattle.owed_plan.proofs.CalledLemmas.{after_link_law}
use Rattle.owed_plan.proofs.SystemLemmas.{sound_at}
use Rattle.switch_names.specs.Names.{Name}
use Rattle.unit_defs.specs.Units.{text_of, wanted_of}
use Rattle.unit_stage.specs.End.{entries_by, state_after}
use Rattle.unit_stage.specs.Order.{ArrangesStarts}
use Rattle.unit_stage.specs.Owes.{IsPaid, IsSteadyWorld, Owes, OwesUnit}
use Rattle.unit_stage.specs.Plan.{IsOwedBy, IsOwedIn}
use Rattle.unit_stage.specs.System.{current_system, definitions_of}
use Rattle.unit_stage.specs.Units.{AreUnitsFree, AreUnitsUnderway}
use Rattle.unit_stage.specs.Waiting.{AreListsFor}
use Rattle.unit_stage.proofs.CallingLemmas.{is_called}
use Rattle.unit_stage.proofs.EndLemmas.{ends_same}
use Rattle.unit_stage.proofs.EnteredLemmas.{entered_owed, paid_by_call, paid_by_stop}
use Rattle.unit_stage.proofs.RoomLemmas.{still_room}
use Rattle.unit_stage.proofs.WaitingLemmas.{same_waiting}

-- a moment of a switch when the system is in use, given the world at its beginning
pub record IsMomentAfterLink (start_up : Bool) (system : Name) (owed : Owed) (order : List Name) (w m : WorldState) : Type 0 where
  pub made : List Duty
  pub rest : List Duty
  pub prefix : flat_map (listed_calls owed order (state_of w.manager.states)) give_order ≡ made ++ rest
  pub journal : m.manager.journal ≡ w.manager.journal ++ entries_by system owed w made
  pub kept : Lists
  pub listed : AreListsFor start_up m.leaves system kept
  pub called : AreCalled owed (brought_by (definitions_of system) w.manager.bad) (stopped owed.stops (state_of w.manager.states)) (state_of m.manager.states) kept (is_called made)
  pub bad : m.manager.bad ≡ w.manager.bad
  pub systems : systems_at m.leaves (current_system m.leaves) system ≡ systems_at w.leaves (Some system) system

module _ (start_up : Bool) (system : Name) (first_lists : Lists) (owed : Owed) (order : List Name) (arranges : ArrangesStarts owed order) (w m : WorldState) (owes : IsOwedIn start_up system w first_lists owed)
    (steady : IsSteadyWorld start_up system w) (moment : IsMomentAfterLink start_up system owed order w m) where
  abbrev old : Texts
  old = text_at w.leaves (current_system w.leaves)

  abbrev new : Texts
  new = text_of w.leaves system

  abbrev states : Name → State
  states = state_of w.manager.states

  abbrev now : Name → State
  now = state_of m.manager.states

  abbrev before : Systems
  before = systems_of old new (wanted_of w.leaves system)

  abbrev after : Systems
  after = systems_of new new (wanted_of w.leaves system)

  abbrev at_moment : Systems
  at_moment = systems_at m.leaves (current_system m.leaves) system

  way : IsOnTheWay before after states now first_lists moment.kept owed (definitions_of system) w.manager.bad (is_called moment.made)
  way =
      after_link_law old new (wanted_of w.leaves system) states now first_lists moment.kept owed (definitions_of system) w.manager.bad (is_called moment.made)
      (sound_at w.leaves (current_system w.leaves) system) (steady.marks first_lists owes.listed) owes.is_owed moment.called

  -- what holds by the lists of a world holds by these
  by_first : (P : Lists → Type 0) (lists : Lists) → AreListsFor start_up w.leaves system lists → P lists → P first_lists
  by_first P lists listed holds = subst P (same_waiting start_up w.leaves system lists first_lists listed owes.listed) holds

  by_kept : (P : Lists → Type 0) (lists : Lists) → AreListsFor start_up m.leaves system lists → P lists → P moment.kept
  by_kept P lists listed holds = subst P (same_waiting start_up m.leaves system lists moment.kept listed moment.listed) holds

  owes_now : (unit : Name) → OwesUnit start_up system m unit → kinds.OwesUnit after now moment.kept unit
  owes_now unit (debt, (lists, listed, owing)) = (
    debt,
    subst (λ (systems : Systems). IsDue systems now moment.kept debt unit) moment.systems
        (by_kept (λ (l : Lists). IsDue at_moment now l debt unit) lists listed owing),
  )

  owes_then : (unit : Name) → kinds.OwesUnit before states first_lists unit → OwesUnit start_up system w unit
  owes_then unit (debt, owing) = (debt, (first_lists, owes.listed, owing))

  -- the end is the same
  end_now : (next : Owed) → IsOwedBy start_up system m next → (unit : Name) → state_after system next m unit ≡ state_after system owed w unit
  end_now next (lists, is) unit =
      let planned = by_kept (λ (l : Lists). IsOwed at_moment now l next) lists is.listed is.is_owed in
      let next_owed = subst (λ (systems : Systems). IsOwed systems now moment.kept next) moment.systems planned in
      ap (λ bad. final_state next (definitions_of system) bad now unit) moment.bad ∙ way.final next next_owed unit

  -- what was entered pays what was owed, or it is owed still
  abbrev entered : List Entry
  entered = entries_by system owed w moment.made

  owes_still : (debt : Debt) (unit : Name) → IsDue after now moment.kept debt unit → Owes start_up system m debt unit
  owes_still debt unit owing = (moment.kept, moment.listed, subst (λ (systems : Systems). IsDue systems now moment.kept debt unit) (sym moment.systems) owing)

  paid_or_due : (debt : Debt) (unit : Name) → IsDue before states first_lists debt unit → IsPaid system debt unit entered ⊎ Owes start_up system m debt unit
  paid_or_due ToStop unit owing =
      inl (paid_by_stop start_up system first_lists owed order arranges w owes moment.made moment.rest moment.prefix unit (((owes.is_owed ToStop).exact unit).1 owing))
  paid_or_due (OnList which) unit owing =
      elim (way.owed_yet which unit owing) [
        | inl paid ↦ inl (paid_by_call start_up system first_lists owed order arranges w owes moment.made moment.rest moment.prefix which unit paid)
        | inr still ↦ inr (owes_still (OnList which) unit still)
      ]

  paid_or_owed : (debt : Debt) (unit : Name) → Owes start_up system w debt unit → IsPaid system debt unit entered ⊎ Owes start_up system m debt unit
  paid_or_owed debt unit (lists, listed, owing) = paid_or_due debt unit (by_first (λ (l : Lists). IsDue before states l debt unit) lists listed owing)

  are_marks : (lists : Lists) → AreListsFor start_up m.leaves system lists → IsSteady at_moment now lists
  are_marks lists listed =
      subst (λ (l : Lists). IsSteady at_moment now l) (sym (same_waiting start_up m.leaves system lists moment.kept listed moment.listed))
      (subst (λ (systems : Systems). IsSteady systems now moment.kept) (sym moment.systems) way.steady)

  no_more_owed : (unit : Name) → OwesUnit start_up system m unit → OwesUnit start_up system w unit
  no_more_owed unit owing = owes_then unit (way.units unit (owes_now unit owing))

  pub after_link_underway : AreUnitsFree system m.leaves → (AreOwedShort w.leaves → AreOwedShort m.leaves) → AreUnitsUnderway start_up system w m
  after_link_underway free short = record {
    same_states = ends_same start_up system first_lists owed w owes m end_now;
    same_bad = moment.bad;
    gone_on = record {
      since = record { entered = entered; journal = moment.journal; owed_alone = entered_owed start_up system first_lists owed order arranges w owes moment.made moment.rest moment.prefix; others = λ unit none. way.others unit (λ owing. none (owes_then unit owing)) };
      paid_or_owed = paid_or_owed;
      no_more_owed = no_more_owed;
    };
    free = free;
    short = short;
    steady = record { marks = are_marks; room = still_room start_up system w m no_more_owed steady };
  }
