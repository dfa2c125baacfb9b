-- What is read of a world by several calls, one after the other, is of one world, and so is the plan that is made by it.
use Rattle.std.proofs.Common.{◌≡◌, ◌↔◌, ◌&&◌, List, ℕ, IsTrue, Err, IsErrOf, sym, ap, subst, ◌∙◌, Bool}
use Rattle.std.proofs.lemmas.Bool.{and_from, and_parts}
use Rattle.host_trait.specs.declared.unit_state.State.{State}
use Rattle.host_trait.specs.States.{UnitStates, state_of}
use Rattle.host_trait.specs.World.{WorldState}
use Rattle.log_text.specs.declared.lists.Lists.{Lists}
use Rattle.owed_plan.specs.Calls.{calls_of}
use Rattle.owed_plan.specs.declared.owed.Owed.{Owed}
use Rattle.owed_plan.specs.Owed.{IsDue, IsOwed, IsPlan}
use Rattle.owed_plan.specs.Steady.{IsSteady}
use Rattle.owed_plan.specs.Systems.{Systems, systems_at, systems_in}
use Rattle.owed_plan.proofs.SystemLemmas.{systems_same}
use Rattle.switch_names.specs.Names.{IsListOf, Name}
use Rattle.unit_defs.specs.declared.unit.Unit.{Unit}
use Rattle.unit_defs.specs.Defs.{AreDefsOf}
use Rattle.unit_stage.specs.declared.known.Known.{Known}
use Rattle.unit_stage.specs.declared.unit_plan.UnitPlan.{UnitPlan}
use Rattle.switch_parts.specs.declared.plan_fault.PlanFault.{PlanFault}
use Rattle.unit_stage.specs.Known.{IsKnownOf, IsKnownSteady, IsPlanBy, OwesKnown}
use Rattle.unit_stage.specs.Owes.{FitInEach, IsSteadyWorld, OwesUnit}
use Rattle.unit_stage.specs.Plan.{IsUnitPlanOf}
use Rattle.unit_stage.specs.Room.{is_owed}
use Rattle.unit_stage.specs.System.{current_system}
use Rattle.unit_stage.proofs.OrderLemmas.{defs_in_order}
use Rattle.unit_stage.proofs.RoomLemmas.{is_due, due_among, union_list, union_of}
use Rattle.unit_stage.proofs.WaitingLemmas.{same_waiting}

pub same_fault : {T : Type 0} (x y : PlanFault) → IsErrOf {T = T} (Err x) y → x ≡ y
same_fault x y e = cc

-- the plan by what is known of a world is the plan of that world
pub plan_is : (start_up : Bool) (system : List ℕ) (w : WorldState) (known : Known) (plan : UnitPlan) → IsKnownOf start_up system w known → IsPlanBy known plan → IsUnitPlanOf start_up system w plan
plan_is start_up system w known plan is by =
    let states : IsPlan (systems_in known.old.defs known.new) (state_of w.manager.states) known.units.lists plan.owed =
    subst (λ (states : UnitStates). IsPlan (systems_in known.old.defs known.new) (state_of states) known.units.lists plan.owed) is.units.states by.owed in
    record {
      from = by.from ∙ is.old.name;
      defs = subst (λ (units : List Unit). AreDefsOf w.leaves system units) (sym by.defs) is.new;
      lists = known.units.lists;
      planned = record {
        listed = is.units.lists;
        planned = subst (λ (systems : Systems). IsPlan systems (state_of w.manager.states) known.units.lists plan.owed)
            (systems_same w.leaves (current_system w.leaves) system known.old.defs known.new is.old.defs is.new) states;
      };
      write = by.write w.leaves is.units.log;
      in_order = defs_in_order w.leaves system known.new plan.owed plan.ordered is.new by.in_order;
      duties = by.duties ∙ ap (λ (states : UnitStates). calls_of plan.owed plan.ordered.units (state_of states)) is.units.states;
    }

-- ---- whether it is steady

module _ (known : Known) where
  abbrev systems : Systems
  systems = systems_in known.old.defs known.new

  abbrev states : Name → State
  states = state_of known.units.states

  -- what is told of the marks and of the room is so by what is known
  pub known_told : (owed : Owed) (marks room both : Bool) → IsOwed systems states known.units.lists owed → IsTrue marks ↔ IsSteady systems states known.units.lists →
      ((names : List Name) → IsListOf names (λ unit. IsTrue (is_owed owed unit)) → IsTrue room ↔ FitInEach names) → both ≡ (marks && room) → IsTrue both ↔ IsKnownSteady known
  known_told owed marks room both owes by_marks by_room is = (on, back)
    where
      to_owed : (names : List Name) → IsListOf names (OwesKnown known) → IsListOf names (λ unit. IsTrue (is_owed owed unit))
      to_owed names are = record {
        sorted = are.sorted;
        exact = λ unit. (
          λ found. let owing = (are.exact unit).0 found in due_among systems states known.units.lists owed owes unit owing.0 owing.1,
          λ among. (are.exact unit).1 (is_due systems states known.units.lists owed owes unit among),
        );
      }

      to_known : (names : List Name) → IsListOf names (λ unit. IsTrue (is_owed owed unit)) → IsListOf names (OwesKnown known)
      to_known names are = record {
        sorted = are.sorted;
        exact = λ unit. (
          λ found. is_due systems states known.units.lists owed owes unit ((are.exact unit).0 found),
          λ owing. (are.exact unit).1 (due_among systems states known.units.lists owed owes unit owing.0 owing.1),
        );
      }

      on : IsTrue both → IsKnownSteady known
      on told =
          let parts = and_parts marks room (sym is ∙ told) in
          record { marks = by_marks.0 parts.0; room = λ names are. (by_room names (to_owed names are)).0 parts.1 }

      back : IsKnownSteady known → IsTrue both
      back steady =
          let union = union_list owed in
          is ∙ and_from marks room (by_marks.1 steady.marks) ((by_room (union_of owed) union).1 (steady.room (union_of owed) (to_known (union_of owed) union)))

module _ (start_up : Bool) (system : List ℕ) (w : WorldState) (known : Known) (is : IsKnownOf start_up system w known) where
  same_systems : systems_in known.old.defs known.new ≡ systems_at w.leaves (current_system w.leaves) system
  same_systems = systems_same w.leaves (current_system w.leaves) system known.old.defs known.new is.old.defs is.new

  -- what holds by what is known holds of the world
  module _ (P : Systems → (Name → State) → Lists → Type 0) where
    abbrev by_systems : Systems → Type 0
    by_systems systems = P systems (state_of w.manager.states) known.units.lists

    abbrev by_states : UnitStates → Type 0
    by_states states = P (systems_in known.old.defs known.new) (state_of states) known.units.lists

    to_world : P (systems_in known.old.defs known.new) (state_of known.units.states) known.units.lists → P (systems_at w.leaves (current_system w.leaves) system) (state_of w.manager.states) known.units.lists
    to_world holds = subst by_systems same_systems (subst by_states is.units.states holds)

    to_known : P (systems_at w.leaves (current_system w.leaves) system) (state_of w.manager.states) known.units.lists → P (systems_in known.old.defs known.new) (state_of known.units.states) known.units.lists
    to_known holds = subst by_states (sym is.units.states) (subst by_systems (sym same_systems) holds)

  owes_there : (unit : Name) → OwesKnown known unit → OwesUnit start_up system w unit
  owes_there unit (debt, owing) = (debt, (known.units.lists, is.units.lists, to_world (λ (s : Systems) (states : Name → State) (l : Lists). IsDue s states l debt unit) owing))

  owes_by : (unit : Name) → OwesUnit start_up system w unit → OwesKnown known unit
  owes_by unit (debt, (others, listed, owing)) = (
    debt,
    to_known (λ (s : Systems) (states : Name → State) (l : Lists). IsDue s states l debt unit)
        (subst (λ (l : Lists). IsDue (systems_at w.leaves (current_system w.leaves) system) (state_of w.manager.states) l debt unit)
        (same_waiting start_up w.leaves system others known.units.lists listed is.units.lists) owing),
  )

  known_steady : IsKnownSteady known → IsSteadyWorld start_up system w
  known_steady steady = record {
    marks = λ lists listed.
        subst (λ (l : Lists). IsSteady (systems_at w.leaves (current_system w.leaves) system) (state_of w.manager.states) l)
        (same_waiting start_up w.leaves system known.units.lists lists is.units.lists listed) (to_world IsSteady steady.marks);
    room = λ names are.
        steady.room names (record { sorted = are.sorted; exact = λ unit. (λ found. owes_by unit ((are.exact unit).0 found), λ owing. (are.exact unit).1 (owes_there unit owing)) });
  }

  world_steady : IsSteadyWorld start_up system w → IsKnownSteady known
  world_steady steady = record {
    marks = to_known IsSteady (steady.marks known.units.lists is.units.lists);
    room = λ names are.
        steady.room names (record { sorted = are.sorted; exact = λ unit. (λ found. owes_there unit ((are.exact unit).0 found), λ owing. (are.exact unit).1 (owes_by unit owing)) });
  }

  -- the plan by what is known of a world tells whether that is steady
  pub steady_is : (plan : UnitPlan) → IsPlanBy known plan → IsTrue plan.steady ↔ IsSteadyWorld start_up system w
  steady_is plan by = (λ told. known_steady (by.steady.0 told), λ steady. by.steady.1 (world_steady steady))
