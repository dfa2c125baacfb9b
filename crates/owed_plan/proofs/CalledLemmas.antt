-- At each moment of the calls after the link, what is owed is what the first world owed.
use Rattle.std.proofs.Common.{◌≡◌, ◌≢◌, ◌⊎◌, Bool, true, false, IsTrue, List, if◌then◌else◌, refl, sym, ap, subst, ◌∙◌, inl, inr}
use Rattle.std.proofs.lemmas.Bool.{cases_Bool, false_from_ne_true}
use Rattle.host_trait.specs.declared.unit_state.State.{State}
use Rattle.host_trait.specs.declared.unit_state.State.TheVariants.{Active, Inactive, Failed}
use Rattle.log_text.specs.declared.lists.Lists.{Lists}
use Rattle.log_text.specs.declared.lists.Which.{Which}
use Rattle.log_text.specs.declared.lists.Which.TheVariants as kinds
use Rattle.log_text.specs.Lists.{list_names}
use Rattle.owed_plan.specs.declared.owed.Owed.{Owed}
use Rattle.owed_plan.specs.Called.{AfterLinkLaw, AreCalled, IsCalled, IsDone, IsGiven, IsLeftOf, OwesUnit}
use Rattle.owed_plan.specs.FinalStates.{brought_by}
use Rattle.owed_plan.specs.Law.{IsSound, stopped}
use Rattle.owed_plan.specs.Lists.{Debt, OnList, ToStop, is_listed, is_put, is_renewed, owed_names, renews}
use Rattle.owed_plan.specs.Owed.{Decides, IsBySelf, IsDue, IsForOthers, IsOwed, Stops, Waits, has_live}
use Rattle.owed_plan.specs.Pull.{IsRoot, Running, Pending, Pulled}
use Rattle.owed_plan.specs.Steady.{IsSteady}
use Rattle.owed_plan.specs.Systems.{IsDefined, Systems, Texts, systems_of}
use Rattle.switch_names.specs.declared.unit_kind.UnitKind.TheVariants.{Target}
use Rattle.switch_names.specs.Names.{Name, has}
use Rattle.unit_decide.specs.declared.decision.Decision.{Decision}
use Rattle.unit_decide.specs.declared.decision.Decision.TheVariants.{Nothing, Reload, Restart, SocketStart, Start, Stop, StopStart}
use Rattle.unit_decide.specs.Decision.{decide}
use Rattle.unit_decide.specs.Kinds.{is_kind}
use Rattle.unit_decide.proofs.TableLemmas.{settled_nothing, socket_start_service, target_barred, target_marked, target_not_reloaded, target_not_restarted, target_from_test, target_same, undefined_nothing}
use Rattle.unit_defs.specs.Pull.{FromRoot, FromWant}
use Rattle.owed_plan.proofs.CoreLemmas.{owed_again, owed_defined, owed_listed, start_pulled}
use Rattle.owed_plan.proofs.FinalLemmas.{final_active, final_brought, final_by, final_down, final_of, final_to_bring}
use Rattle.owed_plan.proofs.KindLemmas.{listed_on, on_list, on_renewing, put_elim, renewed_listed, renewed_on, renewed_other, starts_or_other}
use Rattle.owed_plan.proofs.PrefixLemmas.{was_active}
use Rattle.owed_plan.proofs.SteadyLemmas.{no_target}
use Rattle.unit_decide.proofs.FactsLemmas.{self_same}

is_state_active : (state : State) → (state ≡ Active) ⊎ (state ≢ Active)
is_state_active Active = inl refl
is_state_active Inactive = inr (λ e. absurd cc)
is_state_active Failed = inr (λ e. absurd cc)

-- what is left of a list is on it
still_listed : (names left : List Name) (IsDone : Name → Type 0) (unit : Name) → IsLeftOf names left IsDone → has left unit ≡ true → has names unit ≡ true
still_listed names left IsDone unit (IsLeftOf.Stands same) found = subst (λ ns. has ns unit ≡ true) same found
still_listed names left IsDone unit (IsLeftOf.Removed within done) found = within unit found

-- a unit of a list is done with, or left on it
done_or_left : (names left : List Name) (IsDone : Name → Type 0) (unit : Name) → IsLeftOf names left IsDone → has names unit ≡ true → IsDone unit ⊎ (has left unit ≡ true)
done_or_left names left IsDone unit (IsLeftOf.Stands same) found = inr (subst (λ ns. has ns unit ≡ true) (sym same) found)
done_or_left names left IsDone unit (IsLeftOf.Removed within done) found = inl (done unit found)

module _ (old new : Texts) (wants : Name → List Name) (now : Name → State) (kept : Lists) where
  abbrev after : Systems
  after = systems_of new new wants

  -- where the new system is the old one too, only targets that it defines get anything
  pub defined_target : (unit : Name) (decision : Decision) → decision ≢ Nothing → Decides after now kept unit decision → IsDefined after unit × ((after.facts unit).kind ≡ Target)
  defined_target unit decision other decides =
      elim (cases_Bool (after.facts unit).in_new) [
        | inl defined ↦
            elim (cases_Bool (is_kind (after.facts unit).kind Target)) [
              | inl target ↦ (defined, target_from_test (after.facts unit).kind target)
              | inr none ↦ absurd (other (sym decides.row ∙ settled_nothing (after.facts unit) (has_live after now kept unit) defined (self_same (after.facts unit).kind (new unit)) none))
            ]
        | inr undefined ↦ absurd (other (sym decides.row ∙ undefined_nothing (after.facts unit) (has_live after now kept unit) undefined undefined))
      ]

  -- their rows are those of the first world
  pub row_before : (unit : Name) (decision : Decision) (live : Bool) → decision ≢ Nothing → Decides after now kept unit decision → decide ((systems_of old new wants).facts unit) live ≡ decision
  row_before unit decision live other decides =
      let is = defined_target unit decision other decides in
      target_same ((systems_of old new wants).facts unit) (after.facts unit) live (has_live after now kept unit) (ap (λ k. is_kind k Target) is.1) refl is.0 refl refl refl ∙ decides.row

  pub no_socket_start : (unit : Name) → Decides after now kept unit SocketStart → ⊥
  no_socket_start unit decides =
      let target = (defined_target unit SocketStart (λ e. absurd cc) decides).1 in
      let service = socket_start_service (after.facts unit) (has_live after now kept unit) decides.row in
      cc (sym target ∙ service)

  pub no_reload : (unit : Name) → Decides after now kept unit Reload → ⊥
  no_reload unit decides = target_not_reloaded (after.facts unit) (has_live after now kept unit) (defined_target unit Reload (λ e. absurd cc) decides).1 decides.row

  pub no_restart : (unit : Name) → Decides after now kept unit Restart → ⊥
  no_restart unit decides = target_not_restarted (after.facts unit) (has_live after now kept unit) (defined_target unit Restart (λ e. absurd cc) decides).1 decides.row

-- a moment of the calls
module _ (old new : Texts) (wants : Name → List Name) (states now : Name → State) (lists kept : Lists) (owed : Owed) (to : Name → State) (is_paid : Name → Bool) (sound : IsSound (systems_of old new wants)) (steady : IsSteady (systems_of old new wants) states lists) (is_owed : IsOwed (systems_of old new wants) states lists owed) (called : AreCalled owed to (stopped owed.stops states) now kept is_paid) where
  abbrev before : Systems
  before = systems_of old new wants

  abbrev later : Systems
  later = systems_of new new wants

  abbrev then_ : Name → State
  then_ = stopped owed.stops states

  owes : (debt : Debt) (unit : Name) → has (owed_names owed debt) unit ≡ true → IsDue before states lists debt unit
  owes debt unit = ((is_owed debt).exact unit).0

  listed : (debt : Debt) (unit : Name) → IsDue before states lists debt unit → has (owed_names owed debt) unit ≡ true
  listed debt unit = ((is_owed debt).exact unit).1

  -- what is left of a list was owed
  listed_before : (which : Which) (unit : Name) → has (list_names kept which) unit ≡ true → Waits before states lists which unit
  listed_before which unit found = owes (OnList which) unit (still_listed (list_names owed.lists which) (list_names kept which) _ unit (called.kept_lists which) found)

  -- a unit on one of the lists is owed that
  waits_for : (unit : Name) → is_listed owed.lists unit ≡ true → (which : Which) × Waits before states lists which unit
  waits_for unit found = let one = on_list owed.lists unit found in (one.0, owes (OnList one.0) unit one.1)

  -- a unit that is up after the stops was so, and isn't stopped
  up_before : (unit : Name) → then_ unit ≡ Active → (Stops before states lists unit → ⊥) × (states unit ≡ Active)
  up_before unit active =
      let was = was_active (has owed.stops unit) (states unit) (then_ unit) refl active in
      ((λ stops. was.0 (listed ToStop unit stops)), was.1)

  -- a target on a list is started
  target_starts : (unit : Name) → (before.facts unit).kind ≡ Target → is_listed owed.lists unit ≡ true → Waits before states lists kinds.Starts unit
  target_starts unit target found =
      let one = waits_for unit found in
      elim (starts_or_other one.0) [
        | inl starts ↦ subst (λ which. Waits before states lists which unit) starts one.1
        | inr other ↦ absurd (no_target before states lists steady one.0 other unit target one.1)
      ]

  no_target_renewed : (unit : Name) → (before.facts unit).kind ≡ Target → is_renewed owed.lists unit ≡ true → ⊥
  no_target_renewed unit target found =
      let one = on_renewing owed.lists unit found in
      no_target before states lists steady one.0 (renewed_other one.0 one.1) unit target (owes (OnList one.0) unit one.2)

  -- a target that is up was so after the stops, or has been started
  target_up : (unit : Name) → (before.facts unit).kind ≡ Target → now unit ≡ Active →
      (then_ unit ≡ Active) ⊎ (Waits before states lists kinds.Starts unit × (then_ unit ≢ Active) × (now unit ≡ to unit))
  target_up unit target active = by (called.units unit)
    where
      by : IsCalled owed unit (to unit) (then_ unit) (now unit) → (then_ unit ≡ Active) ⊎ (Waits before states lists kinds.Starts unit × (then_ unit ≢ Active) × (now unit ≡ to unit))
      by (IsCalled.NotYet same) = inl (sym same ∙ active)
      by (IsCalled.Brought brought down is) = inr (target_starts unit target brought, down, is)
      by (IsCalled.Renewed renewed is) = absurd (no_target_renewed unit target renewed)
      by (IsCalled.Halfway renewed is) = absurd (no_target_renewed unit target renewed)

  -- what is stopped again is a target that has been started, and is started again
  stopped_again : (unit : Name) → Stops later now kept unit → Waits before states lists kinds.Starts unit × (then_ unit ≢ Active) × (now unit ≡ to unit) × Waits later now kept kinds.Starts unit
  stopped_again unit (Stops.ByStop decides) =
      let is = defined_target old new wants now kept unit Stop (λ e. absurd cc) decides in
      let row = row_before old new wants now kept unit Stop (has_live before states lists unit) (λ e. absurd cc) decides in
      elim (target_up unit is.1 decides.active) [
        | inl up ↦ absurd ((up_before unit up).0 (Stops.ByStop (record { active = (up_before unit up).1; row = row })))
        | inr started ↦
            absurd
            (steady.pull unit (start_pulled before states lists sound unit is.1 started.0)
            (is.0, is.1, target_marked (before.facts unit) (has_live before states lists unit) is.0 row, target_barred (before.facts unit) (has_live before states lists unit) is.0 row))
      ]
  stopped_again unit (Stops.ByStopStart decides) =
      let is = defined_target old new wants now kept unit StopStart (λ e. absurd cc) decides in
      let row = row_before old new wants now kept unit StopStart (has_live before states lists unit) (λ e. absurd cc) decides in
      elim (target_up unit is.1 decides.active) [
        | inl up ↦ absurd ((up_before unit up).0 (Stops.ByStopStart (record { active = (up_before unit up).1; row = row })))
        | inr started ↦ (started.0, started.1, started.2, owed_again later now kept unit decides)
      ]
  stopped_again unit (Stops.BySocketStart decides) = absurd (no_socket_start old new wants now kept unit decides)
  stopped_again unit (Stops.ByService service activates active) = absurd (no_socket_start old new wants now kept service activates.0)

  -- the pull stays within that of the first world
  root_pulled : (unit : Name) → IsRoot later now kept unit → Pulled before states lists unit
  root_pulled unit (Running defined target active may) =
      elim (target_up unit target active) [
        | inl up ↦ FromRoot unit (Running defined target (up_before unit up).1 may)
        | inr started ↦ start_pulled before states lists sound unit target started.0
      ]
  root_pulled unit (Pending defined target listed) = start_pulled before states lists sound unit target (listed_before kinds.Starts unit listed)

  pull_within : (unit : Name) → Pulled later now kept unit → Pulled before states lists unit
  pull_within unit (FromRoot _ root) = root_pulled unit root
  pull_within unit (FromWant _ by reached wanted) = FromWant unit by (pull_within by reached) wanted

  -- what a decision puts on a list was owed it
  decided_within : (which : Which) (unit : Name) (decision : Decision) → is_put which decision ≡ true → Decides later now kept unit decision → Waits before states lists which unit
  decided_within which unit decision puts decides =
      put_elim (λ one made. Decides later now kept unit made → Waits before states lists one unit) (started_within unit) (λ decided. (stopped_again unit (Stops.ByStopStart decided)).0)
      (λ decided. absurd (no_restart old new wants now kept unit decided)) (λ decided. absurd (no_reload old new wants now kept unit decided)) which decision puts decides
    where
      started_within : (unit : Name) → Decides later now kept unit Start → Waits before states lists kinds.Starts unit
      started_within unit decides =
          let is = defined_target old new wants now kept unit Start (λ e. absurd cc) decides in
          elim (target_up unit is.1 decides.active) [
            | inl up ↦
                Waits.BySelf (IsBySelf.ByDecision Start refl (record { active = (up_before unit up).1; row = row_before old new wants now kept unit Start (has_live before states lists unit) (λ e. absurd cc) decides }))
            | inr started ↦ started.0
          ]

  by_self_within : (which : Which) (unit : Name) → IsBySelf later now kept which unit → Waits before states lists which unit
  by_self_within which unit (IsBySelf.ByDecision decision puts decides) = decided_within which unit decision puts decides
  by_self_within which unit (IsBySelf.ByList listed defined) = listed_before which unit listed

  -- what is owed on another list than the starts was owed there
  other_within : (which : Which) (unit : Name) → which ≢ kinds.Starts → Waits later now kept which unit → Waits before states lists which unit
  other_within which unit other (Waits.BySelf by) = by_self_within which unit by
  other_within which unit other (Waits.ForOthers starts by) = absurd (other starts)

  abbrev IsCalledUnit : Name → Type 0
  IsCalledUnit unit = (which : Which) × Waits before states lists which unit

  -- what was up and isn't, or is stopped again, was stopped, where it isn't brought up anew
  down_stopped : (unit : Name) → (is_renewed owed.lists unit ≡ true → ⊥) → (now unit ≡ Active → Stops later now kept unit) → states unit ≡ Active → Stops before states lists unit
  down_stopped unit none again active =
      elim (cases_Bool (has owed.stops unit)) [
        | inl stops ↦ owes ToStop unit stops
        | inr stays ↦ absurd (up (ap (λ b. if b then Inactive else states unit) stays ∙ active))
      ]
    where
      up : then_ unit ≡ Active → ⊥
      up was = by (called.units unit)
        where
          by : IsCalled owed unit (to unit) (then_ unit) (now unit) → ⊥
          by (IsCalled.NotYet same) = (stopped_again unit (again (same ∙ was))).1 was
          by (IsCalled.Brought brought down is) = down was
          by (IsCalled.Renewed renewed is) = none renewed
          by (IsCalled.Halfway renewed is) = none renewed

  -- what is owed on a list was owed something
  waits_within : (which : Which) (unit : Name) → Waits later now kept which unit → IsCalledUnit unit
  waits_within which unit (Waits.BySelf by) = (which, by_self_within which unit by)
  waits_within which unit (Waits.ForOthers starts (IsForOthers.ByService service activates)) = absurd (no_socket_start old new wants now kept service activates.0)
  waits_within which unit (Waits.ForOthers starts (IsForOthers.ByPull pulled again own socketed)) =
      elim (cases_Bool (is_listed owed.lists unit)) [
        | inl found ↦ waits_for unit found
        | inr none ↦
            let not_listed : is_listed owed.lists unit ≡ true → ⊥ = λ found. cc (sym found ∙ none) in (
              kinds.Starts,
              Waits.ForOthers refl
                  (IsForOthers.ByPull (pull_within unit pulled) (down_stopped unit (λ renewed. not_listed (renewed_listed owed.lists unit renewed)) again)
                  (λ one by. not_listed (listed_on owed.lists unit one (listed (OnList one) unit (Waits.BySelf by)))) socketed),
            )
      ]

  units_within : (unit : Name) → OwesUnit later now kept unit → OwesUnit before states lists unit
  units_within unit (ToStop, stops) = (OnList kinds.Starts, (stopped_again unit stops).0)
  units_within unit (OnList which, waits) = let is = waits_within which unit waits in (OnList is.0, is.1)

  -- what is owed nothing is as it was
  others_kept : (unit : Name) → ¬ OwesUnit before states lists unit → now unit ≡ states unit
  others_kept unit none = by (called.units unit)
    where
      not_listed : is_listed owed.lists unit ≡ true → ⊥
      not_listed found = let is = waits_for unit found in none (OnList is.0, is.1)

      not_stopped : has owed.stops unit ≡ false
      not_stopped = false_from_ne_true (has owed.stops unit) (λ found. none (ToStop, owes ToStop unit found))

      by : IsCalled owed unit (to unit) (then_ unit) (now unit) → now unit ≡ states unit
      by (IsCalled.NotYet same) = same ∙ ap (λ b. if b then Inactive else states unit) not_stopped
      by (IsCalled.Brought brought down is) = absurd (not_listed brought)
      by (IsCalled.Renewed renewed is) = absurd (not_listed (renewed_listed owed.lists unit renewed))
      by (IsCalled.Halfway renewed is) = absurd (not_listed (renewed_listed owed.lists unit renewed))

  -- what a list stands for is paid or owed
  still_owed : (which : Which) (unit : Name) → has (list_names kept which) unit ≡ true → Waits later now kept which unit
  still_owed which unit found = owed_listed later now kept which unit found (owed_defined before states lists sound which unit (listed_before which unit found))

  owed_yet : (which : Which) (unit : Name) → Waits before states lists which unit → IsTrue (is_paid unit) ⊎ Waits later now kept which unit
  owed_yet which unit owes =
      elim (done_or_left (list_names owed.lists which) (list_names kept which) _ unit (called.kept_lists which) (listed (OnList which) unit owes)) [
        | inl done ↦ inl done.1
        | inr left ↦ inr (still_owed which unit left)
      ]

  -- points 1 and 2 of what is steady
  stays_steady : IsSteady later now kept
  stays_steady = record {
    pull = λ unit pulled for_good. steady.pull unit (pull_within unit pulled) for_good;
    starts = λ unit listed for_good. steady.pull unit (start_pulled before states lists sound unit for_good.1 (listed_before kinds.Starts unit listed)) for_good;
    others = λ which other unit listed target. no_target before states lists steady which other unit target (listed_before which unit listed);
  }

  -- the final states, for what is owed at that moment
  module _ (next : Owed) (is_next : IsOwed later now kept next) (unit : Name) where
    abbrev final_first : Bool → Bool → State
    final_first renewed brought = final_of renewed brought (then_ unit) (to unit)

    abbrev final_next : Bool → Bool → Bool → State
    final_next renewed brought stops = final_of renewed brought (if stops then Inactive else now unit) (to unit)

    told : (debt : Debt) → has (owed_names next debt) unit ≡ true → IsDue later now kept debt unit
    told debt = ((is_next debt).exact unit).0

    on_next : (which : Which) → Waits later now kept which unit → has (list_names next.lists which) unit ≡ true
    on_next which = ((is_next (OnList which)).exact unit).1

    next_called : is_listed next.lists unit ≡ true → IsCalledUnit unit
    next_called found = let one = on_list next.lists unit found in waits_within one.0 unit (told (OnList one.0) one.1)

    next_renewed : is_renewed next.lists unit ≡ true → is_renewed owed.lists unit ≡ true
    next_renewed found =
        let one = on_renewing next.lists unit found in
        renewed_on owed.lists unit one.0 one.1 (listed (OnList one.0) unit (other_within one.0 unit (renewed_other one.0 one.1) (told (OnList one.0) one.2)))

    next_stops : has next.stops unit ≡ true → then_ unit ≢ Active
    next_stops stops = (stopped_again unit (told ToStop stops)).1

    next_again : has next.stops unit ≡ true → is_listed next.lists unit ≡ true
    next_again stops = listed_on next.lists unit kinds.Starts (on_next kinds.Starts (stopped_again unit (told ToStop stops)).3)

    called_listed : IsCalledUnit unit → is_listed owed.lists unit ≡ true
    called_listed is = listed_on owed.lists unit is.0 (listed (OnList is.0) unit is.1)

    -- what is done with, or listed yet
    done_or_next : (which : Which) → has (list_names owed.lists which) unit ≡ true → IsDone (renews which) kept owed unit (to unit) (then_ unit) (now unit) ⊎ (has (list_names next.lists which) unit ≡ true)
    done_or_next which found =
        elim (done_or_left (list_names owed.lists which) (list_names kept which) _ unit (called.kept_lists which) found) [
          | inl done ↦ inl done.0
          | inr left ↦ inr (on_next which (still_owed which unit left))
        ]

    -- a unit that is brought up anew is so, or will be
    is_or_renewed : is_renewed owed.lists unit ≡ true → (now unit ≡ to unit) ⊎ (is_renewed next.lists unit ≡ true)
    is_or_renewed found =
        let one = on_renewing owed.lists unit found in
        elim (done_or_next one.0 one.2) [
          | inl done ↦ elim (subst (λ b. IsDone b kept owed unit (to unit) (then_ unit) (now unit)) one.1 done) [
            | inl is ↦ inl is
            | inr still ↦ let later = on_renewing kept unit still in inr (renewed_on next.lists unit later.0 later.1 (on_next later.0 (still_owed later.0 unit later.2)))
          ]
          | inr again ↦ inr (renewed_on next.lists unit one.0 one.1 again)
        ]

    renewed_to : is_renewed owed.lists unit ≡ true → final_next (is_renewed next.lists unit) (is_listed next.lists unit) (has next.stops unit) ≡ to unit
    renewed_to found =
        elim (is_or_renewed found) [
          | inl is ↦ final_brought (is_renewed next.lists unit) (is_listed next.lists unit) (has next.stops unit) (now unit) (to unit) is next_again
          | inr again ↦ ap (λ r. final_next r (is_listed next.lists unit) (has next.stops unit)) again
        ]

    module _ (none : is_renewed owed.lists unit ≡ false) where
      not_renewed : is_renewed owed.lists unit ≡ true → ⊥
      not_renewed e = cc (sym e ∙ none)

      not_renewed_next : is_renewed next.lists unit ≡ false
      not_renewed_next = false_from_ne_true (is_renewed next.lists unit) (λ e. not_renewed (next_renewed e))

      -- a unit that is up as it was
      still_up : then_ unit ≡ Active → now unit ≡ Active
      still_up up = by (called.units unit)
        where
          by : IsCalled owed unit (to unit) (then_ unit) (now unit) → now unit ≡ Active
          by (IsCalled.NotYet same) = same ∙ up
          by (IsCalled.Brought brought down is) = absurd (down up)
          by (IsCalled.Renewed renewed is) = absurd (not_renewed renewed)
          by (IsCalled.Halfway renewed is) = absurd (not_renewed renewed)

      kept_up : then_ unit ≡ Active → final_next false (is_listed next.lists unit) (has next.stops unit) ≡ Active
      kept_up up =
          ap (final_next false (is_listed next.lists unit)) (false_from_ne_true (has next.stops unit) (λ stops. next_stops stops up))
          ∙ final_active (is_listed next.lists unit) (now unit) (to unit) (still_up up)

      given : IsGiven owed unit (to unit) (then_ unit) (now unit) → then_ unit ≢ Active → now unit ≡ to unit
      given (inl renewed) down = absurd (not_renewed renewed)
      given (inr (inl up)) down = absurd (down up)
      given (inr (inr is)) down = is

      -- a unit that is to be brought to its state is so, or will be
      is_or_comes : then_ unit ≢ Active → is_listed owed.lists unit ≡ true → (now unit ≡ to unit) ⊎ (is_listed next.lists unit ≡ true)
      is_or_comes down found =
          let one = on_list owed.lists unit found in
          let stays_up : renews one.0 ≡ false = false_from_ne_true (renews one.0) (λ renewed. not_renewed (renewed_on owed.lists unit one.0 renewed one.1)) in
          elim (done_or_next one.0 one.1) [
            | inl done ↦ inl (given (subst (λ b. IsDone b kept owed unit (to unit) (then_ unit) (now unit)) stays_up done) down)
            | inr again ↦ inr (listed_on next.lists unit one.0 again)
          ]

      up_is_to : then_ unit ≢ Active → now unit ≡ Active → now unit ≡ to unit
      up_is_to down active = by (called.units unit)
        where
          by : IsCalled owed unit (to unit) (then_ unit) (now unit) → now unit ≡ to unit
          by (IsCalled.NotYet same) = absurd (down (sym same ∙ active))
          by (IsCalled.Brought brought was is) = is
          by (IsCalled.Renewed renewed is) = is
          by (IsCalled.Halfway renewed is) = absurd (not_renewed renewed)

      comes_to : then_ unit ≢ Active → is_listed owed.lists unit ≡ true → final_next false (is_listed next.lists unit) (has next.stops unit) ≡ to unit
      comes_to down found =
          elim (is_or_comes down found) [
            | inl is ↦ final_brought false (is_listed next.lists unit) (has next.stops unit) (now unit) (to unit) is next_again
            | inr comes ↦ ap (λ b. final_next false b (has next.stops unit)) comes ∙ final_to_bring (has next.stops unit) (now unit) (to unit) (up_is_to down)
          ]

      -- a unit that isn't called
      module _ (not_listed : is_listed owed.lists unit ≡ false) where
        not_called : IsCalledUnit unit → ⊥
        not_called is = cc (sym (called_listed is) ∙ not_listed)

        untouched : now unit ≡ then_ unit
        untouched = by (called.units unit)
          where
            by : IsCalled owed unit (to unit) (then_ unit) (now unit) → now unit ≡ then_ unit
            by (IsCalled.NotYet same) = same
            by (IsCalled.Brought brought was is) = absurd (cc (sym brought ∙ not_listed))
            by (IsCalled.Renewed renewed is) = absurd (not_renewed renewed)
            by (IsCalled.Halfway renewed is) = absurd (not_renewed renewed)

        left_alone : final_next false (is_listed next.lists unit) (has next.stops unit) ≡ then_ unit
        left_alone =
            ap (λ b. final_next false b (has next.stops unit)) (false_from_ne_true (is_listed next.lists unit) (λ e. not_called (next_called e)))
            ∙ ap (final_next false false) (false_from_ne_true (has next.stops unit) (λ e. not_called (next_called (next_again e))))
            ∙ untouched

      same_unrenewed : final_next false (is_listed next.lists unit) (has next.stops unit) ≡ final_first false (is_listed owed.lists unit)
      same_unrenewed =
          elim (cases_Bool (is_listed owed.lists unit)) [
            | inl found ↦
                elim (is_state_active (then_ unit)) [
                  | inl up ↦ kept_up up ∙ sym (final_active (is_listed owed.lists unit) (then_ unit) (to unit) up)
                  | inr down ↦ comes_to down found ∙ sym (ap (final_first false) found ∙ final_down (then_ unit) (to unit) down)
                ]
            | inr other ↦ left_alone other ∙ sym (ap (final_first false) other)
          ]

    same_final : final_next (is_renewed next.lists unit) (is_listed next.lists unit) (has next.stops unit) ≡ final_first (is_renewed owed.lists unit) (is_listed owed.lists unit)
    same_final =
        elim (cases_Bool (is_renewed owed.lists unit)) [
          | inl renewed ↦ renewed_to renewed ∙ sym (ap (λ r. final_first r (is_listed owed.lists unit)) renewed)
          | inr none ↦
              ap (λ r. final_next r (is_listed next.lists unit) (has next.stops unit)) (not_renewed_next none) ∙ same_unrenewed none
              ∙ sym (ap (λ r. final_first r (is_listed owed.lists unit)) none)
        ]

pub after_link_law : AfterLinkLaw
after_link_law old new wants states now lists kept owed loaded bad is_paid sound steady is_owed called =
    let to : Name → State = brought_by loaded bad in
    record {
      pull = pull_within old new wants states now lists kept owed to is_paid sound steady is_owed called;
      final = λ next is_next unit.
          final_by (is_renewed next.lists unit) (is_listed next.lists unit) (has next.stops unit) (now unit) (to unit)
          ∙ same_final old new wants states now lists kept owed to is_paid sound steady is_owed called next is_next unit
          ∙ sym (final_by (is_renewed owed.lists unit) (is_listed owed.lists unit) (has owed.stops unit) (states unit) (to unit));
      owed_yet = owed_yet old new wants states now lists kept owed to is_paid sound steady is_owed called;
      units = units_within old new wants states now lists kept owed to is_paid sound steady is_owed called;
      others = others_kept old new wants states now lists kept owed to is_paid sound steady is_owed called;
      steady = stays_steady old new wants states now lists kept owed to is_paid sound steady is_owed called;
    }
