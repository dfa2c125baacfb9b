-- Where nothing has changed that the units' part looks at, a switch of the units is underway.
use Rattle.std.proofs.Common.{◌≡◌, ◌||◌, Some, sym, ap, subst, ◌∙◌, Bool}
use Rattle.std.specs.FinMap.{get}
use Rattle.host_trait.specs.declared.manager_state.ManagerState.{ManagerState}
use Rattle.host_trait.specs.declared.unit_state.State.{State}
use Rattle.host_trait.specs.States.{state_of}
use Rattle.host_trait.specs.World.{WorldState}
use Rattle.log_text.specs.declared.lists.Lists.{Lists}
use Rattle.owed_log.specs.Lengths.{AreOwedShort}
use Rattle.owed_log.specs.Standing.{AreListsAt}
use Rattle.owed_plan.specs.declared.owed.Owed.{Owed}
use Rattle.owed_plan.specs.FinalStates.{final_state}
use Rattle.owed_plan.specs.Lists.{Debt}
use Rattle.owed_plan.specs.Owed.{IsDue, IsOwed}
use Rattle.owed_plan.specs.Steady.{IsSteady}
use Rattle.owed_plan.specs.Systems.{Systems, systems_at}
use Rattle.switch_names.specs.Names.{Name, has}
use Rattle.unit_stage.specs.End.{state_after}
use Rattle.unit_stage.specs.Laws.{AreSameBeside}
use Rattle.unit_stage.specs.Owes.{IsSteadyWorld, Owes, OwesUnit}
use Rattle.unit_stage.specs.Plan.{IsOwedBy, IsOwedIn}
use Rattle.unit_stage.specs.System.{IsSystem, current_place, current_system, definitions_of}
use Rattle.unit_stage.specs.Units.{AreUnitsFree, AreUnitsUnderway}
use Rattle.unit_stage.specs.Waiting.{AreListsFor, waits_besides}
use Rattle.unit_stage.proofs.EndLemmas.{ends_same, one_end, owed_in}
use Rattle.unit_stage.proofs.GoneOnLemmas.{no_call}
use Rattle.unit_stage.proofs.ListsLemmas.{lists_back}
use Rattle.unit_stage.proofs.RoomLemmas.{still_room}
use Rattle.unit_stage.proofs.SystemsLemmas.{systems_before}
use Rattle.unit_stage.proofs.WaitingLemmas.{besides_same}

module _ (start_up : Bool) (system : Name) (is_system : IsSystem system) (w m : WorldState) (same : AreSameBeside w m) (current : get m.leaves current_place ≡ get w.leaves current_place)
    (forth : (lists : Lists) → AreListsAt w.leaves lists → AreListsAt m.leaves lists) (manager : m.manager ≡ w.manager) where
  abbrev before : Systems
  before = systems_at w.leaves (current_system w.leaves) system

  abbrev after : Systems
  after = systems_at m.leaves (current_system m.leaves) system

  systems : after ≡ before
  systems = systems_before system is_system w m same current

  -- ---- the same lists stand

  waits_same : (unit : Name) → waits_besides start_up m.leaves system unit ≡ waits_besides start_up w.leaves system unit
  waits_same unit = besides_same start_up m.leaves w.leaves (current_system m.leaves) (current_system w.leaves) system systems unit

  listed_before : (lists : Lists) → AreListsFor start_up m.leaves system lists → AreListsFor start_up w.leaves system lists
  listed_before lists listed = record {
    stored = listed.stored;
    standing = lists_back w.leaves m.leaves forth listed.stored listed.standing;
    starts = record { sorted = listed.starts.sorted; exact = λ unit. listed.starts.exact unit ∙ ap (λ b. b || has listed.stored.starts unit) (waits_same unit) };
    others = listed.others;
  }

  listed_after : (lists : Lists) → AreListsFor start_up w.leaves system lists → AreListsFor start_up m.leaves system lists
  listed_after lists listed = record {
    stored = listed.stored;
    standing = forth listed.stored listed.standing;
    starts = record { sorted = listed.starts.sorted; exact = λ unit. listed.starts.exact unit ∙ ap (λ b. b || has listed.stored.starts unit) (sym (waits_same unit)) };
    others = listed.others;
  }

  -- ---- what holds of systems and states holds of the others

  module _ (P : Systems → (Name → State) → Type 0) where
    holds_before : P after (state_of m.manager.states) → P before (state_of w.manager.states)
    holds_before holds =
        subst (λ (s : Systems). P s (state_of w.manager.states)) systems
        (subst (λ (x : ManagerState). P after (state_of x.states)) manager holds)

    holds_after : P before (state_of w.manager.states) → P after (state_of m.manager.states)
    holds_after holds =
        subst (λ (x : ManagerState). P after (state_of x.states)) (sym manager)
        (subst (λ (s : Systems). P s (state_of w.manager.states)) (sym systems) holds)

  owes_before : (debt : Debt) (unit : Name) → Owes start_up system m debt unit → Owes start_up system w debt unit
  owes_before debt unit (lists, listed, owing) = (lists, listed_before lists listed, holds_before (λ (s : Systems) (states : Name → State). IsDue s states lists debt unit) owing)

  owes_after : (debt : Debt) (unit : Name) → Owes start_up system w debt unit → Owes start_up system m debt unit
  owes_after debt unit (lists, listed, owing) = (lists, listed_after lists listed, holds_after (λ (s : Systems) (states : Name → State). IsDue s states lists debt unit) owing)

  unit_before : (unit : Name) → OwesUnit start_up system m unit → OwesUnit start_up system w unit
  unit_before unit (debt, owes) = (debt, owes_before debt unit owes)

  owed_before : (owed : Owed) → IsOwedBy start_up system m owed → IsOwedBy start_up system w owed
  owed_before owed (lists, is) =
      (lists, record { listed = listed_before lists is.listed; is_owed = holds_before (λ (s : Systems) (states : Name → State). IsOwed s states lists owed) is.is_owed })

  pub owed_after : (owed : Owed) → IsOwedBy start_up system w owed → IsOwedBy start_up system m owed
  owed_after owed (lists, is) =
      (lists, record { listed = listed_after lists is.listed; is_owed = holds_after (λ (s : Systems) (states : Name → State). IsOwed s states lists owed) is.is_owed })

  is_steady : IsSteadyWorld start_up system w → IsSteadyWorld start_up system m
  is_steady steady = record {
    marks = λ lists listed. holds_after (λ (s : Systems) (states : Name → State). IsSteady s states lists) (steady.marks lists (listed_before lists listed));
    room = still_room start_up system w m unit_before steady;
  }

  module _ (lists : Lists) (owed : Owed) (owes : IsOwedIn start_up system w lists owed) where
    end_before : (next : Owed) → IsOwedBy start_up system m next → (unit : Name) → state_after system next m unit ≡ state_after system owed w unit
    end_before next is unit =
        ap (λ (x : ManagerState). final_state next (definitions_of system) x.bad (state_of x.states) unit) manager
        ∙ one_end start_up system lists owed w owes next (owed_before next is) unit

  -- a switch of the units is underway where it hasn't begun
  pub begun_underway : AreUnitsFree system m.leaves → (AreOwedShort w.leaves → AreOwedShort m.leaves) → IsSteadyWorld start_up system w → AreUnitsUnderway start_up system w m
  begun_underway free short steady =
      let owed = owed_in start_up system w in
      record {
        same_states = ends_same start_up system owed.1.0 owed.0 w owed.1.1 m (end_before owed.1.0 owed.0 owed.1.1);
        same_bad = ap (λ (x : ManagerState). x.bad) manager;
        gone_on = no_call start_up (Some system) w m manager owes_after unit_before;
        free = free;
        short = short;
        steady = is_steady steady;
      }
