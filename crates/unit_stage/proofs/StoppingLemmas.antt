-- While units are stopped, a switch of the units is underway.
use Rattle.std.proofs.Common.{◌≡◌, ◌⊎◌, ◌++◌, ℕ, true, false, List, map, take, if◌then◌else◌, sym, ap, subst, ◌∙◌, Bool, inl, inr}
use Rattle.std.proofs.lemmas.Bool.{cases_Bool, false_from_ne_true}
use Rattle.std.specs.List.{AllByRecursion}
use Rattle.host_trait.specs.declared.entry.Act.TheVariants.{Stop}
use Rattle.host_trait.specs.declared.entry.Entry.{Entry}
use Rattle.host_trait.specs.declared.unit_state.State.{State}
use Rattle.host_trait.specs.declared.unit_state.State.TheVariants.{Inactive}
use Rattle.host_trait.specs.States.{state_of}
use Rattle.host_trait.specs.World.{WorldState}
use Rattle.log_text.specs.declared.lists.Lists.{Lists}
use Rattle.owed_log.specs.Lengths.{AreOwedShort}
use Rattle.owed_plan.specs.Called as kinds
use Rattle.owed_plan.specs.declared.owed.Owed.{Owed}
use Rattle.owed_plan.specs.Calls.{duty}
use Rattle.owed_plan.specs.FinalStates.{final_state}
use Rattle.owed_plan.specs.Law.{AreStopped, IsRecorded, SameOwed}
use Rattle.owed_plan.specs.Lists.{Debt, OnList, ToStop}
use Rattle.owed_plan.specs.Owed.{IsDue, IsOwed, Stops, stop_order}
use Rattle.owed_plan.specs.Steady.{IsSteady}
use Rattle.owed_plan.specs.Systems.{Systems, systems_at}
use Rattle.owed_plan.proofs.CoreLemmas.{stops_active}
use Rattle.owed_plan.proofs.LinkedLemmas.{stops_final_law}
use Rattle.owed_plan.proofs.NameLemmas.{has-sockets_first, has-take}
use Rattle.owed_plan.proofs.PrefixLemmas.{law}
use Rattle.owed_plan.proofs.SteadyLemmas.{steady_law}
use Rattle.owed_plan.proofs.SystemLemmas.{sound_at}
use Rattle.switch_names.specs.Names.{Name, has}
use Rattle.unit_stage.specs.Acts.{entry_of}
use Rattle.unit_stage.specs.End.{state_after}
use Rattle.unit_stage.specs.Owes.{IsPaid, IsSteadyWorld, Owes, OwesUnit}
use Rattle.unit_stage.specs.Plan.{IsOwedBy, IsOwedIn}
use Rattle.unit_stage.specs.System.{current_system, definitions_of}
use Rattle.unit_stage.specs.Units.{AreUnitsFree, AreUnitsUnderway}
use Rattle.unit_stage.specs.Waiting.{AreListsFor}
use Rattle.unit_stage.proofs.EndLemmas.{ends_same}
use Rattle.unit_stage.proofs.PayLemmas.{all_entries, all_of, stop_paid}
use Rattle.unit_stage.proofs.RoomLemmas.{still_room}
use Rattle.unit_stage.proofs.WaitingLemmas.{same_waiting}

-- both systems of a world
abbrev pub systems_of_world : Name → WorldState → Systems
systems_of_world system w = systems_at w.leaves (current_system w.leaves) system

-- the start list is recorded, some of the stops are made, and the link hasn't moved
pub record IsMomentOfStops (start_up : Bool) (system : Name) (lists : Lists) (owed : Owed) (w m : WorldState) : Type 0 where
  pub count : ℕ
  pub kept : Lists
  pub listed : AreListsFor start_up m.leaves system kept
  pub recorded : IsRecorded owed lists kept
  pub stopped : AreStopped (systems_of_world system w) owed count (state_of w.manager.states) (state_of m.manager.states)
  pub journal : m.manager.journal ≡ w.manager.journal ++ map (entry_of w.manager.loaded) (map (duty Stop) (take count (stop_order (systems_of_world system w) owed.stops)))
  pub bad : m.manager.bad ≡ w.manager.bad
  pub systems : systems_of_world system m ≡ systems_of_world system w

module _ (start_up : Bool) (system : Name) (lists : Lists) (owed : Owed) (w m : WorldState) (owes : IsOwedIn start_up system w lists owed) (steady : IsSteadyWorld start_up system w) (moment : IsMomentOfStops start_up system lists owed w m) where
  abbrev both : Systems
  both = systems_of_world system w

  abbrev states : Name → State
  states = state_of w.manager.states

  abbrev now : Name → State
  now = state_of m.manager.states

  abbrev taken : List Name
  taken = take moment.count (stop_order both owed.stops)

  same : SameOwed both states now lists moment.kept
  same = law both states now lists moment.kept owed moment.count (sound_at w.leaves (current_system w.leaves) system) owes.is_owed moment.stopped moment.recorded

  taken_owed : (unit : Name) → has taken unit ≡ true → Stops both states lists unit
  taken_owed unit found =
      ((owes.is_owed ToStop).exact unit).0 (sym (has-sockets_first (λ u. (both.facts u).kind) owed.stops unit) ∙ has-take moment.count (stop_order both owed.stops) unit found)

  untaken : (unit : Name) → has taken unit ≡ false → now unit ≡ states unit
  untaken unit other = moment.stopped unit ∙ ap (λ b. if b then Inactive else states unit) other

  by_first : (P : Lists → Type 0) (others : Lists) → AreListsFor start_up w.leaves system others → P others → P lists
  by_first P others listed holds = subst P (same_waiting start_up w.leaves system others lists listed owes.listed) holds

  by_kept : (P : Lists → Type 0) (others : Lists) → AreListsFor start_up m.leaves system others → P others → P moment.kept
  by_kept P others listed holds = subst P (same_waiting start_up m.leaves system others moment.kept listed moment.listed) holds

  owes_then : (unit : Name) → kinds.OwesUnit both states lists unit → OwesUnit start_up system w unit
  owes_then unit (debt, owing) = (debt, (lists, owes.listed, owing))

  end_now : (next : Owed) → IsOwedBy start_up system m next → (unit : Name) → state_after system next m unit ≡ state_after system owed w unit
  end_now next (others, is) unit =
      let planned = by_kept (λ (l : Lists). IsOwed (systems_of_world system m) now l next) others is.listed is.is_owed in
      let next_owed = subst (λ (systems : Systems). IsOwed systems now moment.kept next) moment.systems planned in
      ap (λ bad. final_state next (definitions_of system) bad now unit) moment.bad
      ∙ stops_final_law both states now lists moment.kept owed moment.count (sound_at w.leaves (current_system w.leaves) system) owes.is_owed moment.stopped moment.recorded next next_owed (definitions_of system) w.manager.bad unit

  abbrev entered : List Entry
  entered = map (entry_of w.manager.loaded) (map (duty Stop) taken)

  entered_owed : AllByRecursion (λ (entry : Entry). OwesUnit start_up system w entry.unit) entered
  entered_owed =
      all_entries (OwesUnit start_up system w) w.manager.loaded (map (duty Stop) taken)
      (all_of (λ call. OwesUnit start_up system w call.unit) (λ u. Stop) taken (λ unit found. owes_then unit (ToStop, taken_owed unit found)))

  owes_still : (debt : Debt) (unit : Name) → IsDue both now moment.kept debt unit → Owes start_up system m debt unit
  owes_still debt unit owing = (moment.kept, moment.listed, subst (λ (systems : Systems). IsDue systems now moment.kept debt unit) (sym moment.systems) owing)

  paid_or_due : (debt : Debt) (unit : Name) → IsDue both states lists debt unit → IsPaid system debt unit entered ⊎ Owes start_up system m debt unit
  paid_or_due ToStop unit owing =
      elim (cases_Bool (has taken unit)) [
        | inl found ↦ inl (stop_paid system w.manager.loaded unit taken found)
        | inr other ↦ inr (owes_still ToStop unit ((same.stops unit).1 (owing, untaken unit other ∙ stops_active both states lists unit owing)))
      ]
  paid_or_due (OnList which) unit owing = inr (owes_still (OnList which) unit ((same.others which unit).1 owing))

  paid_or_owed : (debt : Debt) (unit : Name) → Owes start_up system w debt unit → IsPaid system debt unit entered ⊎ Owes start_up system m debt unit
  paid_or_owed debt unit (others, listed, owing) = paid_or_due debt unit (by_first (λ (l : Lists). IsDue both states l debt unit) others listed owing)

  owed_before : (debt : Debt) (unit : Name) → IsDue both now moment.kept debt unit → IsDue both states lists debt unit
  owed_before ToStop unit owing = ((same.stops unit).0 owing).0
  owed_before (OnList which) unit owing = (same.others which unit).0 owing

  no_more_owed : (unit : Name) → OwesUnit start_up system m unit → OwesUnit start_up system w unit
  no_more_owed unit (debt, (others, listed, owing)) =
      let kept = by_kept (λ (l : Lists). IsDue (systems_of_world system m) now l debt unit) others listed owing in
      (debt, (lists, owes.listed, owed_before debt unit (subst (λ (systems : Systems). IsDue systems now moment.kept debt unit) moment.systems kept)))

  others_kept : (unit : Name) → ¬ OwesUnit start_up system w unit → now unit ≡ states unit
  others_kept unit none = untaken unit (false_from_ne_true (has taken unit) (λ found. none (owes_then unit (ToStop, taken_owed unit found))))

  are_marks : (others : Lists) → AreListsFor start_up m.leaves system others → IsSteady (systems_of_world system m) now others
  are_marks others listed =
      subst (λ (l : Lists). IsSteady (systems_of_world system m) now l) (sym (same_waiting start_up m.leaves system others moment.kept listed moment.listed))
      (subst (λ (systems : Systems). IsSteady systems now moment.kept) (sym moment.systems)
      (steady_law both states now lists moment.kept owed moment.count (sound_at w.leaves (current_system w.leaves) system) owes.is_owed moment.stopped moment.recorded (steady.marks lists owes.listed)))

  pub stops_underway : AreUnitsFree system m.leaves → (AreOwedShort w.leaves → AreOwedShort m.leaves) → AreUnitsUnderway start_up system w m
  stops_underway free short = record {
    same_states = ends_same start_up system lists owed w owes m end_now;
    same_bad = moment.bad;
    gone_on = record {
      since = record { entered = entered; journal = moment.journal; owed_alone = entered_owed; others = others_kept };
      paid_or_owed = paid_or_owed;
      no_more_owed = no_more_owed;
    };
    free = free;
    short = short;
    steady = record { marks = are_marks; room = still_room start_up system w m no_more_owed steady };
  }
