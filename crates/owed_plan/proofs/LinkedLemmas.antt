-- As the link moves the same is owed, but that no unit is stopped; stops leave the final states as they are.
use Rattle.std.proofs.Common.{◌≡◌, ◌≢◌, ◌⊎◌, ◌&&◌, ℕ, Bool, true, false, List, take, if◌then◌else◌, refl, sym, ap, ◌∙◌, inl, inr}
use Rattle.std.specs.Cmp.{both_ways}
use Rattle.std.specs.List.{list_any}
use Rattle.std.proofs.lemmas.Bool.{cases_Bool}
use Rattle.host_trait.specs.declared.entry.Bad.{Bad}
use Rattle.host_trait.specs.declared.unit_state.State.{State}
use Rattle.host_trait.specs.declared.unit_state.State.TheVariants.{Active, Inactive}
use Rattle.log_text.specs.declared.lists.Lists.{Lists}
use Rattle.log_text.specs.declared.lists.Which.{Which}
use Rattle.log_text.specs.declared.lists.Which.TheVariants as kinds
use Rattle.log_text.specs.Lists.{list_names, record_order}
use Rattle.owed_plan.specs.declared.owed.Owed.{Owed}
use Rattle.owed_plan.specs.Law.{AreStopped, IsRecorded, IsSound, stopped}
use Rattle.owed_plan.specs.Lists.{Debt, OnList, ToStop, is_listed, is_renewed, owed_names, renews}
use Rattle.owed_plan.specs.Owed.{Decides, IsBySelf, IsDue, IsForOthers, IsOwed, Stops, Waits, has_live, stop_order}
use Rattle.owed_plan.specs.Pull.{IsRoot, Running, Pending, Pulled}
use Rattle.owed_plan.specs.Systems.{IsDefined, Systems, Texts, systems_of}
use Rattle.owed_plan.proofs.NameLemmas.{has-sockets_first, has-take}
use Rattle.owed_plan.proofs.PrefixLemmas.{law, was_active}
use Rattle.switch_names.specs.declared.unit_kind.UnitKind.TheVariants.{Target}
use Rattle.switch_names.specs.Names.{Name, has}
use Rattle.unit_decide.specs.declared.decision.Decision.{Decision}
use Rattle.unit_decide.specs.declared.decision.Decision.TheVariants.{Nothing, Stop, StopStart}
use Rattle.unit_decide.proofs.TableLemmas.{socket_start_service, target_not_stopped}
use Rattle.unit_defs.specs.Pull.{FromRoot, FromWant}
use Rattle.owed_plan.specs.FinalStates.{brought_by, final_state}
use Rattle.owed_plan.specs.Linked.{LinkLaw, SameAfterLink, StopsFinalLaw}
use Rattle.owed_plan.proofs.CalledLemmas.{no_socket_start, row_before}
use Rattle.owed_plan.proofs.CoreLemmas.{owed_again, owed_defined, owed_listed, start_pulled, stops_active}
use Rattle.owed_plan.proofs.FinalLemmas.{final_by, final_of}
use Rattle.owed_plan.proofs.KindLemmas.{put_something}

module _ (old new : Texts) (wants : Name → List Name) (states : Name → State) (lists : Lists) (owed : Owed) (sound : IsSound (systems_of old new wants)) (is_owed : IsOwed (systems_of old new wants) states lists owed) where
  abbrev first : Systems
  first = systems_of old new wants

  abbrev after : Systems
  after = systems_of new new wants

  abbrev then_ : Name → State
  then_ = stopped owed.stops states

  abbrev kept : Lists
  kept = owed.lists

  owes : (debt : Debt) (unit : Name) → has (owed_names owed debt) unit ≡ true → IsDue first states lists debt unit
  owes debt unit = ((is_owed debt).exact unit).0

  on_list : (which : Which) (unit : Name) → Waits first states lists which unit → has (list_names kept which) unit ≡ true
  on_list which unit = ((is_owed (OnList which)).exact unit).1

  up_before : (unit : Name) → then_ unit ≡ Active → (Stops first states lists unit → ⊥) × (states unit ≡ Active)
  up_before unit active =
      let was = was_active (has owed.stops unit) (states unit) (then_ unit) refl active in
      ((λ stops. was.0 (((is_owed ToStop).exact unit).1 stops)), was.1)

  up_or_stopped : (unit : Name) → states unit ≡ Active → (then_ unit ≡ Active) ⊎ Stops first states lists unit
  up_or_stopped unit active =
      elim (cases_Bool (has owed.stops unit)) [
        | inl stops ↦ inr (owes ToStop unit stops)
        | inr stays ↦ inl (ap (λ b. if b then Inactive else states unit) stays ∙ active)
      ]

  -- what is decided after the link was decided before
  decided : (unit : Name) (decision : Decision) → decision ≢ Nothing → Decides after then_ kept unit decision → Decides first states lists unit decision
  decided unit decision other decides = record {
    active = (up_before unit decides.active).1;
    row = row_before old new wants then_ kept unit decision (has_live first states lists unit) other decides;
  }

  no_stops : (unit : Name) → Stops after then_ kept unit → ⊥
  no_stops unit (Stops.ByStop decides) = (up_before unit decides.active).0 (Stops.ByStop (decided unit Stop (λ e. absurd cc) decides))
  no_stops unit (Stops.ByStopStart decides) = (up_before unit decides.active).0 (Stops.ByStopStart (decided unit StopStart (λ e. absurd cc) decides))
  no_stops unit (Stops.BySocketStart decides) = no_socket_start old new wants then_ kept unit decides
  no_stops unit (Stops.ByService service activates active) = no_socket_start old new wants then_ kept service activates.0

  by_self_to : (which : Which) (unit : Name) → Waits first states lists which unit → IsBySelf after then_ kept which unit
  by_self_to which unit waits = IsBySelf.ByList (on_list which unit waits) (owed_defined first states lists sound which unit waits)

  -- a root that is stopped is on the start list
  root_stopped : (unit : Name) → IsDefined first unit → (first.facts unit).kind ≡ Target → (first.facts unit).may_start ≡ true → Stops first states lists unit → IsRoot after then_ kept unit
  root_stopped unit defined target may (Stops.ByStop decides) = absurd (target_not_stopped (first.facts unit) (has_live first states lists unit) defined target may decides.row)
  root_stopped unit defined target may (Stops.ByStopStart decides) = Pending defined target (on_list kinds.Starts unit (owed_again first states lists unit decides))
  root_stopped unit defined target may (Stops.BySocketStart decides) =
      absurd (let service = socket_start_service (first.facts unit) (has_live first states lists unit) decides.row in cc (sym target ∙ service))
  root_stopped unit defined target may (Stops.ByService service activates active) = absurd (let socket = sound.sockets service unit activates.1.0 in cc (sym target ∙ socket))

  root_kept : (unit : Name) → IsRoot first states lists unit → IsRoot after then_ kept unit
  root_kept unit (Running defined target active may) =
      elim (up_or_stopped unit active) [
        | inl up ↦ Running defined target up may
        | inr stops ↦ root_stopped unit defined target may stops
      ]
  root_kept unit (Pending defined target listed) = Pending defined target (on_list kinds.Starts unit (owed_listed first states lists kinds.Starts unit listed defined))

  pull_to : (unit : Name) → Pulled first states lists unit → Pulled after then_ kept unit
  pull_to unit (FromRoot _ root) = FromRoot unit (root_kept unit root)
  pull_to unit (FromWant _ by reached wanted) = FromWant unit by (pull_to by reached) wanted

  root_pulled : (unit : Name) → IsRoot after then_ kept unit → Pulled first states lists unit
  root_pulled unit (Running defined target active may) = FromRoot unit (Running defined target (up_before unit active).1 may)
  root_pulled unit (Pending defined target listed) = start_pulled first states lists sound unit target (owes (OnList kinds.Starts) unit listed)

  pull_from : (unit : Name) → Pulled after then_ kept unit → Pulled first states lists unit
  pull_from unit (FromRoot _ root) = root_pulled unit root
  pull_from unit (FromWant _ by reached wanted) = FromWant unit by (pull_from by reached) wanted

  owed_from : (which : Which) (unit : Name) → Waits after then_ kept which unit → Waits first states lists which unit
  owed_from which unit (Waits.BySelf (IsBySelf.ByDecision decision puts decides)) =
      Waits.BySelf (IsBySelf.ByDecision decision puts (decided unit decision (put_something which decision puts) decides))
  owed_from which unit (Waits.BySelf (IsBySelf.ByList listed defined)) = owes (OnList which) unit listed
  owed_from which unit (Waits.ForOthers starts (IsForOthers.ByService service activates)) = absurd (no_socket_start old new wants then_ kept service activates.0)
  owed_from which unit (Waits.ForOthers starts (IsForOthers.ByPull pulled again own socketed)) =
      Waits.ForOthers starts
      (IsForOthers.ByPull (pull_from unit pulled)
      (λ active. elim (up_or_stopped unit active) [
        | inl up ↦ absurd (no_stops unit (again up))
        | inr stops ↦ stops
      ])
      (λ one by. own one (by_self_to one unit (Waits.BySelf by))) socketed)

  same_after : SameAfterLink first after states then_ lists kept
  same_after = record {
    pull = λ unit. (pull_from unit, pull_to unit);
    stops = no_stops;
    others = λ which unit. (owed_from which unit, λ waits. Waits.BySelf (by_self_to which unit waits));
  }

pub link_law : LinkLaw
link_law old new wants states lists owed sound is_owed = same_after old new wants states lists owed sound is_owed

-- ---- the stops

-- what is stopped already is inactive, and what is yet to be stopped will be
same_stopped : (taken all next : Bool) (was later : State) → later ≡ (if taken then Inactive else was) → (taken ≡ true → all ≡ true) → (next ≡ true → all ≡ true) → (all ≡ true → later ≡ Active → next ≡ true) →
    (all ≡ true → was ≡ Active) → (if next then Inactive else later) ≡ (if all then Inactive else was)
same_stopped taken true true was later is among within still active = refl
same_stopped taken false true was later is among within still active = absurd (cc (within refl))
same_stopped true true false was later is among within still active = is
same_stopped true false false was later is among within still active = absurd (cc (among refl))
same_stopped false true false was later is among within still active = absurd (let again = still refl (is ∙ active refl) in cc again)
same_stopped false false false was later is among within still active = is

module _ (systems : Systems) (states later : Name → State) (lists kept : Lists) (owed : Owed) (count : ℕ) (sound : IsSound systems) (is_owed : IsOwed systems states lists owed) (are_stopped : AreStopped systems owed count states later) (is_recorded : IsRecorded owed lists kept) (next : Owed) (is_next : IsOwed systems later kept next) (unit : Name) where
  abbrev taken : Bool
  taken = has (take count (stop_order systems owed.stops)) unit

  taken_owed : taken ≡ true → has owed.stops unit ≡ true
  taken_owed found = sym (has-sockets_first (λ u. (systems.facts u).kind) owed.stops unit) ∙ has-take count (stop_order systems owed.stops) unit found

  same_down : (if has next.stops unit then Inactive else later unit) ≡ (if has owed.stops unit then Inactive else states unit)
  same_down =
      let all = law systems states later lists kept owed count sound is_owed are_stopped is_recorded in
      same_stopped taken (has owed.stops unit) (has next.stops unit) (states unit) (later unit) (are_stopped unit) taken_owed
      (λ found. ((is_owed ToStop).exact unit).1 ((all.stops unit).0 (((is_next ToStop).exact unit).0 found)).0)
      (λ found active. ((is_next ToStop).exact unit).1 ((all.stops unit).1 (((is_owed ToStop).exact unit).0 found, active)))
      (λ found. stops_active systems states lists unit (((is_owed ToStop).exact unit).0 found))

  same_listed : (which : Which) → has (list_names next.lists which) unit ≡ has (list_names owed.lists which) unit
  same_listed which =
      let all = law systems states later lists kept owed count sound is_owed are_stopped is_recorded in
      both_ways (has (list_names next.lists which) unit) (has (list_names owed.lists which) unit)
      (λ found. ((is_owed (OnList which)).exact unit).1 ((all.others which unit).0 (((is_next (OnList which)).exact unit).0 found)))
      (λ found. ((is_next (OnList which)).exact unit).1 ((all.others which unit).1 (((is_owed (OnList which)).exact unit).0 found)))

  stops_final : (loaded : List ℕ) (bad : List Bad) → final_state next loaded bad later unit ≡ final_state owed loaded bad states unit
  stops_final loaded bad =
      let to = brought_by loaded bad unit in
      final_by (is_renewed next.lists unit) (is_listed next.lists unit) (has next.stops unit) (later unit) to
      ∙ (λ i. final_of (list_any (λ which. renews which && same_listed which i) record_order) (list_any (λ which. same_listed which i) record_order) (same_down i) to)
      ∙ sym (final_by (is_renewed owed.lists unit) (is_listed owed.lists unit) (has owed.stops unit) (states unit) to)

pub stops_final_law : StopsFinalLaw
stops_final_law systems states later lists kept owed count sound is_owed are_stopped is_recorded next is_next loaded bad unit =
    stops_final systems states later lists kept owed count sound is_owed are_stopped is_recorded next is_next unit loaded bad
