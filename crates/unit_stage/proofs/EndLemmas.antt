-- The states that a switch leaves are the same from each moment.
use Rattle.std.proofs.Common.{◌≡◌, ◌&&◌, ◌↔◌, Bool, false, not, if◌then◌else◌, sym, subst, ◌∙◌}
use Rattle.std.proofs.lemmas.Bool.{false_from_ne_true}
use Rattle.std.specs.List.{list_any}
use Rattle.host_trait.specs.declared.unit_state.State.{State}
use Rattle.host_trait.specs.declared.unit_state.State.TheVariants.{Active, Inactive}
use Rattle.host_trait.specs.Manager.{is_active}
use Rattle.host_trait.specs.States.{state_of}
use Rattle.host_trait.specs.World.{WorldState}
use Rattle.log_text.specs.declared.lists.Lists.{Lists}
use Rattle.log_text.specs.Lists.{record_order}
use Rattle.owed_plan.specs.declared.owed.Owed.{Owed}
use Rattle.owed_plan.specs.FinalStates.{brought_by, final_state}
use Rattle.owed_plan.specs.Lists.{Debt, OnList, ToStop, owed_names, renews}
use Rattle.owed_plan.specs.Owed.{IsOwed}
use Rattle.owed_plan.specs.Systems.{Systems, systems_at}
use Rattle.owed_plan.proofs.ExistLemmas.{plan_at}
use Rattle.owed_plan.proofs.ListLemmas as plans
use Rattle.switch_names.specs.Names.{Name, has}
use Rattle.unit_stage.specs.End.{AreEndStates, state_after}
use Rattle.unit_stage.specs.Owes.{OwesUnit}
use Rattle.unit_stage.specs.Plan.{IsOwedBy, IsOwedIn}
use Rattle.unit_stage.specs.System.{current_system, definitions_of}
use Rattle.unit_stage.proofs.WaitingLemmas.{same_waiting, waiting_in}

-- something is owed in each world
pub owed_in : (start_up : Bool) (system : Name) (w : WorldState) → (owed : Owed) × IsOwedBy start_up system w owed
owed_in start_up system w =
    let listed = waiting_in start_up w.leaves system in
    let plan = plan_at w.leaves (current_system w.leaves) system w.manager.states listed.0 in
    (plan.0, (listed.0, record { listed = listed.1; is_owed = plan.1.is_owed }))

module _ (start_up : Bool) (system : Name) (lists : Lists) (owed : Owed) (w : WorldState) (owes : IsOwedIn start_up system w lists owed) where
  abbrev systems : Systems
  systems = systems_at w.leaves (current_system w.leaves) system

  abbrev states : Name → State
  states = state_of w.manager.states

  owed_here : (first : Owed) → IsOwedBy start_up system w first → IsOwed systems states lists first
  owed_here first (others, is) = subst (λ (l : Lists). IsOwed systems states l first) (same_waiting start_up w.leaves system others lists is.listed owes.listed) is.is_owed

  -- what else is owed has the same names
  pub same_names : (first : Owed) → IsOwedBy start_up system w first → (debt : Debt) → owed_names first debt ≡ owed_names owed debt
  same_names first is = plans.same_names systems states lists first owed (owed_here first is) owes.is_owed

  pub same_lists : (first : Owed) → IsOwedBy start_up system w first → first.lists ≡ owed.lists
  same_lists first is = plans.same_lists systems states lists first owed (owed_here first is) owes.is_owed

  -- it leaves the same states
  pub one_end : (first : Owed) → IsOwedBy start_up system w first → (unit : Name) → state_after system first w unit ≡ state_after system owed w unit
  one_end first is unit =
      λ i. final_state (record { stops = same_names first is ToStop i; lists = same_lists first is i; left = owed.left }) (definitions_of system) w.manager.bad states unit

  lacks : (debt : Debt) (unit : Name) → ¬ OwesUnit start_up system w unit → has (owed_names owed debt) unit ≡ false
  lacks debt unit none = false_from_ne_true (has (owed_names owed debt) unit) (λ found. none (debt, (lists, owes.listed, ((owes.is_owed debt).exact unit).0 found)))

  -- a unit that is owed nothing stays in its state
  pub left_alone : (unit : Name) → ¬ OwesUnit start_up system w unit → state_after system owed w unit ≡ states unit
  left_alone unit none =
      let to = brought_by (definitions_of system) w.manager.bad unit in
      λ i. if list_any (λ which. renews which && lacks (OnList which) unit none i) record_order then to
      else if list_any (λ which. lacks (OnList which) unit none i) record_order && is_active (states unit) && not (lacks ToStop unit none i) then Active
      else if list_any (λ which. lacks (OnList which) unit none i) record_order then to
      else if lacks ToStop unit none i then Inactive
      else states unit

  -- where what is owed at another moment leaves the same states, the end is the same
  pub ends_same : (m : WorldState) → ((next : Owed) → IsOwedBy start_up system m next → (unit : Name) → state_after system next m unit ≡ state_after system owed w unit) →
      (end : Name → State) → AreEndStates start_up system m end ↔ AreEndStates start_up system w end
  ends_same m same end = (back, on)
    where
      back : AreEndStates start_up system m end → AreEndStates start_up system w end
      back (next, is, are) = (owed, (lists, owes), λ unit. are unit ∙ same next is unit)

      on : AreEndStates start_up system w end → AreEndStates start_up system m end
      on (first, is, are) = let next = owed_in start_up system m in (next.0, next.1, λ unit. are unit ∙ one_end first is unit ∙ sym (same next.0 next.1 unit))
