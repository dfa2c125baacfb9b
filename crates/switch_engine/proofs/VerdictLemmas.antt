-- A run that is underway leaves the same units failed from each of its moments.
use Rattle.std.proofs.Common.{◌≡◌, ◌↔◌, ◌&&◌, Bool, true, false, cond, IsSome, is_some, None, Some, refl, sym, ap, subst, ◌∙◌}
use Rattle.std.specs.FinMap.{get}
use Rattle.activation_stage.specs.Owners.{owners_after}
use Rattle.host_trait.specs.declared.unit_state.State.TheVariants.{Failed}
use Rattle.host_trait.specs.States.{state_of}
use Rattle.host_trait.specs.World.{Leaves, WorldState}
use Rattle.owed_plan.specs.Store.{AreSameInStore, IsInStore}
use Rattle.owed_plan.specs.Systems.{Systems}
use Rattle.owed_plan.proofs.StoreLemmas.{systems_law}
use Rattle.switch_engine.specs.declared.command.Command.{Command}
use Rattle.switch_engine.specs.declared.row.Row.{Row}
use Rattle.switch_engine.specs.Commands.{brought_by, if_so, new_system, row}
use Rattle.switch_engine.specs.Final.{AreFinalUnits, IsEndOf, IsFinalOf, LeavesFailed, LeavesFailedAt}
use Rattle.switch_engine.specs.Owing.{IsUnderway}
use Rattle.switch_engine.specs.Rows.{gens_to, part_of}
use Rattle.switch_engine.proofs.PartsLemmas.{not_in_store}
use Rattle.switch_names.specs.Names.{Name}
use Rattle.switch_names.specs.SystemName.{IsSystemPath}
use Rattle.switch_parts.proofs.StoreLemmas.{store_not_stage}
use Rattle.unit_defs.specs.Units.{text_of}
use Rattle.unit_stage.specs.End.{AreEndStates}
use Rattle.unit_stage.proofs.EndLemmas.{one_end}
use Rattle.unit_stage.proofs.SystemsLemmas.{is_system}

either : {X : Type 0} (b : Bool) (x : X) → cond b x x ≡ x
either true x = refl
either false x = refl

-- a command leaves the store as it was
left_in_store : (command : Command) (w v : WorldState) → IsFinalOf command w v → AreSameInStore w.leaves v.leaves
left_in_store command w v final q inside =
    let its = row command w.leaves in
    sym (final.leaves q (store_not_stage q inside)
    ∙ ap (λ b. cond its.changes (cond b ((part_of command w.leaves).end w.leaves q) (get w.leaves q)) (get w.leaves q))
    (not_in_store its.start_up its.switches its.moves its.system (owners_after its.system w.leaves) (gens_to its.moves its.system w.leaves) q inside)
    ∙ either its.changes (get w.leaves q))

-- what a system defines is what it defines in each tree with the same in the store
same_defined : (one other : Leaves) (system unit : Name) → IsInStore system → AreSameInStore one other → is_some (text_of one system unit) ≡ is_some (text_of other system unit)
same_defined one other system unit inside same = ap (λ (systems : Systems). (systems.facts unit).in_new) (systems_law one other None system same tt inside)

-- a unit that the system defines has failed in the end
abbrev IsFailedAtEnd : Name → WorldState → WorldState → Type 0
IsFailedAtEnd system w v = (unit : Name) × (state_of v.manager.states unit ≡ Failed) × IsSome (text_of w.leaves system unit)

failed_at_end : (start_up : Bool) (system : Name) (w v : WorldState) → AreEndStates start_up system w (state_of v.manager.states) → LeavesFailedAt start_up (Some system) w ↔ IsFailedAtEnd system w v
failed_at_end start_up system w v (owed, (lists, owes), states) = (
  λ left. (left.2.0, states left.2.0 ∙ sym (one_end start_up system lists owed w owes left.0 left.1 left.2.0) ∙ left.2.1.failed, left.2.1.defined),
  λ failed. (owed, (lists, owes), (failed.0, record { failed = sym (states failed.0) ∙ failed.1; defined = failed.2 })),
)

verdict_if : (start_up b : Bool) (system : Name) → IsInStore system → (g w v : WorldState) → AreSameInStore g.leaves w.leaves → AreFinalUnits start_up (if_so b system) w v → AreFinalUnits start_up (if_so b system) g v →
    LeavesFailedAt start_up (if_so b system) w → LeavesFailedAt start_up (if_so b system) g
verdict_if start_up true system inside g w v same ends first left =
    let failed = (failed_at_end start_up system w v ends.0).0 left in
    (failed_at_end start_up system g v first.0).1 (failed.0, failed.1, same_defined g.leaves w.leaves system failed.0 inside same ∙ failed.2)
verdict_if start_up false system inside g w v same ends first left = absurd left

pub same_verdict : (command : Command) (g w v : WorldState) → IsSystemPath (new_system command w.leaves) → IsUnderway command g w → IsEndOf command w v → LeavesFailed command w ↔ LeavesFailed command g
same_verdict command g w v named before end =
    let its = row command w.leaves in
    let system = its.system in let start_up = its.start_up in let b = its.changes && its.switches in
    let inside = (is_system system named).inside in
    let final_g = (before.same_end v).0 end.final in
    let first : AreFinalUnits start_up (if_so b system) g v = subst (λ (r : Row). AreFinalUnits r.start_up (brought_by r) g v) (sym before.same_row) final_g.units in
    let same : AreSameInStore g.leaves w.leaves = λ q in_store. left_in_store command g v final_g q in_store ∙ sym (left_in_store command w v end.final q in_store) in
    let back : AreSameInStore w.leaves g.leaves = λ q in_store. sym (same q in_store) in (
      λ left. subst (λ (r : Row). LeavesFailedAt r.start_up (brought_by r) g) before.same_row (verdict_if start_up b system inside g w v same end.final.units first left),
      λ left. verdict_if start_up b system inside w g v back first end.final.units (subst (λ (r : Row). LeavesFailedAt r.start_up (brought_by r) g) (sym before.same_row) left),
    )
