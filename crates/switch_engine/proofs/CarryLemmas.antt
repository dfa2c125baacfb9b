-- What carrying a planned command out leaves at each moment and at its end, whichever of its parts it has.
use Rattle.std.proofs.Common.{◌≡◌, ◌≢◌, ◌↔◌, ◌&&◌, ◌||◌, Bool, IsSome, IsTrue, true, false, cond, Option, None, Some, List, [], ◌++◌, refl, sym, ap, subst, ◌∙◌, inl, inr, rules, unwrap_or, ⊎_elim}
use Rattle.std.proofs.lemmas.Bool.{both_ways, cases_Bool, or_from, or_left}
use Rattle.std.proofs.lemmas.List.{append-nil}
use Rattle.std.specs.FinMap.{empty, get, gets}
use Rattle.activation_stage.specs.ActivationPart.{activation_in, activation_part}
use Rattle.activation_stage.specs.Owners.{owners_after}
use Rattle.etc_manifest.specs.Owners.{OwnerIds}
use Rattle.boot_entries.specs.BootDefault.{boot_default_in, boot_default_part}
use Rattle.boot_entries.specs.BootPart.{boot_part}
use Rattle.boot_entries.specs.declared.boot_default.BootDefaultPlan.{BootDefaultPlan}
use Rattle.boot_entries.specs.Laws.{IsBootGens}
use Rattle.boot_entries.specs.Menu.{IsMenuBetween}
use Rattle.boot_entries.specs.Places.{owns_boot}
use Rattle.generations.specs.declared.gens.Gens.{Gens}
use Rattle.generations.specs.declared.moving.Move.{Move}
use Rattle.generations.specs.declared.moving.Move.TheVariants.{Point, Set}
use Rattle.generations.specs.Goal.{goal_place}
use Rattle.generations.specs.GoalPart.{goal_part, owns_goal, reads_goal}
use Rattle.generations.specs.Move.{gens_moved, move_part}
use Rattle.generations.specs.Places.{link_path, profile}
use Rattle.generations.proofs.GoalPartLemmas.{cleared_at_end, cleared_moment, goal_clear, goal_is}
use Rattle.generations.proofs.PointLemmas.{can_point}
use Rattle.generations.specs.ProfilePart.{owns_profile}
use Rattle.generations.proofs.ProfileApart.{link_owned, profile_owned}
use Rattle.host_trait.specs.declared.entry.Entry.{Entry}
use Rattle.host_trait.specs.declared.manager_state.ManagerState.{ManagerState}
use Rattle.host_trait.specs.declared.unit_state.State.{State}
use Rattle.host_trait.specs.declared.unit_state.State.TheVariants.{Failed, Inactive}
use Rattle.host_trait.specs.States.{state_of}
use Rattle.host_trait.specs.World.{WorldState, bytes_cmp, seen, stage}
use Rattle.host_trait.proofs.Seen.{get_removed_here}
use Rattle.log_text.specs.declared.lists.Lists.{Lists}
use Rattle.owed_log.specs.declared.log_write.LogWrite.{LogWrite}
use Rattle.owed_log.specs.Writing.{IsWriteFor}
use Rattle.owed_plan.specs.declared.owed.Owed.{Owed}
use Rattle.owed_plan.specs.Calls.{calls_of}
use Rattle.switch_engine.specs.declared.command.Command.{Command}
use Rattle.switch_engine.specs.declared.outcome.Outcome.{Outcome}
use Rattle.switch_engine.specs.declared.plan.Plan.{Plan}
use Rattle.switch_engine.specs.declared.plan.SwitchPlan.{SwitchPlan}
use Rattle.switch_engine.specs.declared.row.Row.{Row}
use Rattle.switch_engine.specs.Carried.{CanRecordBy, CanMakeBy, CanSwitchBy, IsSwitchedBy, cleared_by, moves_of}
use Rattle.switch_engine.specs.Commands.{IsQuery, brought_to, if_moved, if_so, is_back, lacks_system, new_system, row, set_to}
use Rattle.switch_engine.specs.Final.{AreEntries, AreFinalUnits, HasBegunToEnter, HasFailed, IsEndOf, LeavesFailedAt}
use Rattle.switch_engine.specs.Moments.{IsClearStep, IsMomentOf, IsOnItsWay, IsRecordStep, IsDefaultStep, IsStepIf, IsStepOf, IsStepTo, NamesOneOf, record_world, default_world}
use Rattle.switch_engine.specs.Owing.{IsSteadyFor, IsUnderway}
use Rattle.switch_engine.specs.Plan.{ArePlanned, IsPlanOf, IsDefaultPlanned, IsSwitchPlanned, units_in, units_of}
use Rattle.switch_engine.specs.Rows.{default_if, gens_to, goal_by, part_if, part_of, switch_in, switch_part}
use Rattle.activation_stage.proofs.ActivationLemmas.{activation_part_law, activation_plan_law, owners_law}
use Rattle.boot_entries.proofs.DefaultLemmas.{default_part_law, default_plan_law, default_stays_law}
use Rattle.boot_entries.proofs.GensLemmas.{gens_after_law}
use Rattle.boot_entries.proofs.MenuLemmas.{menu_begins_law, menu_since_law, menu_stays_law}
use Rattle.switch_engine.proofs.DefinedLemmas.{left_failed}
use Rattle.switch_engine.proofs.FlagLemmas.{changes_on}
use Rattle.switch_engine.proofs.JournalLemmas.{switch_enters}
use Rattle.switch_engine.proofs.LawLemmas.{ended_over}
use Rattle.switch_engine.proofs.MovedPart.{default_in}
use Rattle.switch_engine.proofs.PartsLemmas.{are_parted, default_if_is, default_parted, gens_to_law, goal_parted, parts_are, switch_if_is}
use Rattle.switch_engine.proofs.GoalApart.{goal_not_stage, goal_unread_default}
use Rattle.switch_engine.proofs.GoalKeptLemmas.{IsGoalKept, IsMoveToBy, IsProfileKept, IsRecorded, system_still, kept_recorded, move_to_kept, moves_to, recorded_at, recorded_same, row_same}
use Rattle.switch_engine.proofs.RefusesLemmas.{refused_by_leaves_law}
use Rattle.switch_engine.proofs.StepLeaves.{IsDefaultLeft, IsUnitsEnd, brought_from, default_kept, goal_menu, goal_names_same, goal_not_own, goal_profile, goal_store, link_not_stage, names_since, names_then, of_goal, profile_not_own, profile_not_stage, record_kept, record_last, record_only, record_part_moment, set_end, set_goal, set_menu, set_names, set_part_moment, set_step, small_row, switch_end, switch_final, switch_if_moment, switch_menu, switch_names, switch_step, units_end}
use Rattle.switch_engine.proofs.SwitchedIf.{IsSwitchMomentIf, IsSwitchedIf}
use Rattle.switch_engine.proofs.UnderwayLemmas.{IsFreeCommand, free_command, has_a_system, underway}
use Rattle.switch_names.specs.Names.{Name}
use Rattle.switch_names.specs.SystemName.{IsSystemPath}
use Rattle.switch_parts.specs.Part.{IsFree, IsPartMoment, IsOnly, IsPart, IsSameFor, Part, both, final_leaf}
use Rattle.switch_parts.proofs.Parts.{false_by, first_free, first_moment, moment_then, only_beside, second_free, second_moment}
use Rattle.unit_defs.specs.declared.unit.Unit.{Unit}
use Rattle.unit_stage.specs.declared.unit_plan.UnitPlan.{UnitPlan}
use Rattle.unit_stage.specs.End.{AreEndStates}
use Rattle.unit_stage.specs.Order.{IsOrderedAt}
use Rattle.unit_stage.specs.Owned.{reads_units}
use Rattle.unit_stage.specs.Plan.{IsOwedBy}
use Rattle.unit_stage.proofs.EndLemmas.{one_end}
use Rattle.unit_stage.proofs.OwnedLemmas.{not_reads_stage}
use Rattle.unit_stage.proofs.SystemsLemmas.{is_system}
use Rattle.unit_stage.specs.Units.{units_part}
use Rattle.unit_stage.proofs.UnitsPartLemmas.{order_same, owed_same, write_there}

-- ---- a command

-- what is known of a command that is carried out, at its beginning
pub record IsCarriedFrom (command : Command) (owed : Owed) (order : List Name) (w : WorldState) : Type 0 where
  pub on : (row command w.leaves).changes ≡ true
  pub has : lacks_system command w.leaves ≡ false
  pub named : IsSystemPath (new_system command w.leaves)
  pub free : IsFreeCommand command w.leaves
  pub is_owed : (row command w.leaves).switches ≡ true → IsOwedBy (row command w.leaves).start_up (new_system command w.leaves) w owed
  pub is_ordered : (row command w.leaves).switches ≡ true → IsOrderedAt w.leaves (new_system command w.leaves) owed order

-- ---- what a plan says

module _ (start_up switches : Bool) (system : Name) (w : WorldState) (nothing : UnitPlan) where
  owed_planned : (plan : Option SwitchPlan) → IsSwitchPlanned start_up switches system w plan → switches ≡ true → IsOwedBy start_up system w (units_in plan nothing).owed
  owed_planned None off on = absurd (both_ways _ off on)
  owed_planned (Some plan) (switched, planned, activated) on = (planned.lists, record { listed = planned.planned.listed; is_owed = planned.planned.planned.is_owed })

  order_planned : (plan : Option SwitchPlan) → IsSwitchPlanned start_up switches system w plan → switches ≡ true → IsOrderedAt w.leaves system (units_in plan nothing).owed (units_in plan nothing).ordered.units
  order_planned None off on = absurd (both_ways _ off on)
  order_planned (Some plan) (switched, planned, activated) on = (plan.units.ordered, planned.in_order, refl)

module _ (plan : Plan) (w : WorldState) (is : IsPlanOf w plan) (changes : IsQuery plan.command → ⊥) where
  -- the parts are those of the command's row
  pub planned_parts : ArePlanned (row plan.command w.leaves) w plan
  planned_parts = subst (λ (r : Row). ArePlanned r w plan) is.resolved is.planned

  pub carried_from : IsCarriedFrom plan.command (units_of plan).owed (units_of plan).ordered.units w
  carried_from = record {
    on = changes_on plan.command w.leaves changes;
    has = has_a_system plan.command w.leaves (refused_by_leaves_law plan.command w is.not_refused);
    named = subst (λ (r : Row). IsSystemPath r.system) is.resolved is.named;
    free = free_command plan.command w.leaves (refused_by_leaves_law plan.command w is.not_refused);
    is_owed = owed_planned (row plan.command w.leaves).start_up (row plan.command w.leaves).switches (new_system plan.command w.leaves) w plan.nothing plan.switch planned_parts.switch;
    is_ordered = order_planned (row plan.command w.leaves).start_up (row plan.command w.leaves).switches (new_system plan.command w.leaves) w plan.nothing plan.switch planned_parts.switch;
  }

-- the profile is moved as is planned
pub moves_same : (moves : Option Move) (system : Name) (w : WorldState) (o : Option BootDefaultPlan) → IsDefaultPlanned moves system w o → moves_of o ≡ moves
moves_same moves system w None planned = sym planned
moves_same moves system w (Some plan) planned = sym planned.0

-- the goal of a rollback can be recorded
pub can_record : (moves : Option Move) (system : Name) (gens : Gens) (w : WorldState) → IsFree (default_if moves system gens) w.leaves → CanRecordBy moves w
can_record None system gens w free = tt
can_record (Some Set) system gens w free = tt
can_record (Some (Point n)) system gens w free = record {
  stage = (can_point n system w (first_free (move_part (Point n) system) (boot_part gens) w.leaves (first_free (boot_default_part (Point n) system gens) (goal_by (Point n)) w.leaves free))).stage;
  place = goal_clear true w (second_free (boot_default_part (Point n) system gens) (goal_by (Point n)) w.leaves free);
}

-- a boot default that is planned can be made once the goal is recorded
pub can_set : (moves : Option Move) (system : Name) → IsSystemPath system → (w r : WorldState) (o : Option BootDefaultPlan) → IsDefaultPlanned moves system w o → IsOnly (goal_part false) w r → IsFree (default_in moves system r.leaves) r.leaves →
    CanMakeBy system o r
can_set moves system named w r None planned only free = tt
can_set moves system named w r (Some plan) planned only free = record {
  named = named;
  planned = default_plan_law plan.to system w r plan named
      (only_beside (goal_part false) (boot_default_in plan.to system w.leaves) (default_part_law plan.to system (gens_moved plan.to system w.leaves) (gens_after_law plan.to system w.leaves named))
      (goal_parted plan.to system (gens_moved plan.to system w.leaves)).second refl w r only) planned.1;
  free = first_free (boot_default_in plan.to system r.leaves) (goal_by plan.to) r.leaves (subst (λ mv. IsFree (default_in mv system r.leaves) r.leaves) planned.0 free);
}

-- a planned switch of the units can be made where the profile has been set
pub can_switch : (start_up switches : Bool) (system : Name) → IsSystemPath system → (w u : WorldState) (plan : Option SwitchPlan) (nothing : UnitPlan) → IsSwitchPlanned start_up switches system w plan →
    u.manager ≡ w.manager → (switches ≡ true → IsOwedBy start_up system u (units_in plan nothing).owed) → (switches ≡ true → IsOrderedAt u.leaves system (units_in plan nothing).owed (units_in plan nothing).ordered.units) →
    (switches ≡ true → (lists : Lists) (write : LogWrite) → IsWriteFor w.leaves lists write → IsWriteFor u.leaves lists write) → IsSameFor (activation_in system w.leaves) w u → IsFree (part_if switches (switch_in start_up system u.leaves)) u.leaves → CanSwitchBy system plan u
can_switch start_up switches system named w u None nothing planned manager is_owed is_ordered written same free = tt
can_switch start_up switches system named w u (Some plan) nothing (on, of_units, of_activation) manager is_owed is_ordered written same free = record {
  named = named;
  start_up = start_up;
  is_owed = is_owed on;
  write = written on plan.units.owed.lists plan.units.write of_units.write;
  in_order = is_ordered on;
  duties = of_units.duties ∙ ap (λ (k : ManagerState). calls_of plan.units.owed plan.units.ordered.units (state_of k.states)) (sym manager);
  planned = activation_plan_law system w u plan.activation named same of_activation;
  free = subst (λ b. IsFree (part_if b (switch_in start_up system u.leaves)) u.leaves) on free;
}

-- ---- which units have failed

nothing_there : (unit : Name) → get (empty {K = Name} {X = State} {R = bytes_cmp}) unit ≡ None
nothing_there unit = grind (gets, rules)

none_there : (unit : Name) → state_of empty unit ≡ Inactive
none_there unit = ap (λ o. unwrap_or o Inactive) (nothing_there unit)

-- without a state no unit has failed
pub none_failed : (defs : List Unit) (outcome : Outcome) → outcome ≡ record { states = empty; failed = false } → IsTrue outcome.failed ↔ HasFailed defs outcome.states
none_failed defs outcome is = (
  λ failed. absurd (both_ways _ (ap (λ (o : Outcome). o.failed) is) failed),
  λ has. absurd (not_failed (sym (none_there has.0) ∙ ap (λ (o : Outcome). state_of o.states has.0) (sym is) ∙ has.1)),
)
  where
    not_failed : Inactive ≡ Failed → ⊥
    not_failed is = cc

-- what the outcome says is what the world leaves
pub verdict : (start_up switches : Bool) (system : Name) (plan : Option SwitchPlan) (nothing : UnitPlan) (w u v : WorldState) (outcome : Outcome) → IsSwitchPlanned start_up switches system w plan → u.manager ≡ w.manager → IsSwitchedBy system plan u v →
    (IsSome plan → outcome.states ≡ v.manager.states) → IsTrue outcome.failed ↔ HasFailed (units_in plan nothing).defs outcome.states → (plan ≡ None → outcome ≡ record { states = empty; failed = false }) →
    IsTrue outcome.failed ↔ LeavesFailedAt start_up (if_so switches system) w
verdict start_up switches system None nothing w u v outcome off same end states failed none =
    subst (λ b. IsTrue outcome.failed ↔ LeavesFailedAt start_up (if_so b system) w) (sym off) (λ is. absurd (both_ways _ (ap (λ (o : Outcome). o.failed) (none refl)) is), λ left. absurd left)
verdict start_up switches system (Some plan) nothing w u v outcome planned same end states failed none =
    let owed = plan.units.owed in
    let is_owed = owed_planned start_up switches system w nothing (Some plan) planned planned.0 in
    let says = left_failed system owed plan.units.ordered.units w v plan.units.defs outcome.states planned.1.defs (states refl) (brought_from system owed plan.units.ordered.units w u v same end.units) in
    subst (λ b. IsTrue outcome.failed ↔ LeavesFailedAt start_up (if_so b system) w) (sym planned.0) (
      λ is. (owed, is_owed, says.0 (failed.0 is)),
      λ left. failed.1 (says.1 (
        left.2.0,
        record {
          failed = sym (one_end start_up system is_owed.0 owed w is_owed.1 left.0 left.1 left.2.0) ∙ left.2.1.failed;
          defined = left.2.1.defined;
        },
      )),
    )

-- ---- the goal is removed, where the profile is moved

pub clear_only : (moves : Option Move) (v m : WorldState) → IsClearStep moves v m → IsOnly (goal_part false) v m
clear_only None v m same = record { leaves = λ q none ne. ap (λ (x : WorldState). get x.leaves q) same; manager = λ call. ap (λ (x : WorldState). x.manager) same }
clear_only (Some move) v m step = (cleared_moment false v m step).only

clear_part_moment : (moves : Option Move) (system : Name) (gens : Gens) → IsBootGens gens → (v m : WorldState) → IsClearStep moves v m → IsPartMoment (default_if moves system gens) v m
clear_part_moment None system gens are v m same =
    record { keeps = tt; only = record { leaves = λ q none ne. ap (λ (x : WorldState). get x.leaves q) same; manager = λ call. ap (λ (x : WorldState). x.manager) same } }
clear_part_moment (Some move) system gens are v m step = of_goal move system gens are v m (cleared_moment (is_back (Some move)) v m step)

-- at the beginning it stands as it was
pub clear_begins : (moves : Option Move) (w m : WorldState) → m ≡ w → IsClearStep moves w m
clear_begins None w m same = same
clear_begins (Some move) w m same = inl same

-- the last step leaves no goal
pub clear_last : (moves : Option Move) (v e : WorldState) → e ≡ cleared_by moves v → IsClearStep moves v e
clear_last None v e is = is
clear_last (Some move) v e is = inr is

-- a journal that has all entries of a command has begun to have them
all_entered : (command : Command) (w m : WorldState) (entries : List Entry) → AreEntries (row command w.leaves).start_up (brought_to command w.leaves) w entries → m.manager.journal ≡ w.manager.journal ++ entries → HasBegunToEnter command w m
all_entered command w m entries are journal = record { entries = entries; are_entered = are; made = entries; rest = []; in_order = sym (append-nil entries); journal = journal }

-- where the system is the boot default, each place of that is at its end, by the first world
set_left : (moves : Option Move) (system : Name) → IsSystemPath system → (w r : WorldState) (gens : Gens) → IsBootGens gens → gens ≡ gens_to moves system w.leaves → IsPartMoment (default_if moves system gens) w r → IsFree (default_in moves system r.leaves) r.leaves → (u : WorldState) →
    seen u ≡ default_world moves system r → IsDefaultLeft moves system gens w u
set_left None system named w r gens are same at free u is = tt
set_left (Some move) system named w r gens are same at free u is = λ q own.
    set_end system named r (Some move) free u is q own
    ∙ ap (λ (g : Gens). (boot_default_part move system g).end r.leaves q) (default_stays_law move system gens w r at.keeps.0 ∙ sym same)
    ∙ (default_part_law move system gens are).same_end w r at.keeps.0 q own

-- what the move of the profile is about is at its end once the goal is removed
second_left : (moves : Option Move) (system : Name) (gens : Gens) → IsBootGens gens → (w r u v e : WorldState) (q : Name) → q ≢ stage → IsPartMoment (default_if moves system gens) w r → IsDefaultLeft moves system gens w u →
    IsPartMoment (default_if moves system gens) r u → get v.leaves q ≡ get u.leaves q → e ≡ cleared_by moves v → get e.leaves q ≡ final_leaf (default_if moves system gens) w.leaves q
second_left None system gens are w r u v e q ne at left set same is_e = ap (λ (x : WorldState). get x.leaves q) is_e ∙ same ∙ set.only.leaves q refl ne ∙ at.only.leaves q refl ne
second_left (Some move) system gens are w r u v e q ne at left set same is_e =
    let clear = cleared_moment false v e (inr is_e) in
    let default = boot_default_part move system gens in
    elim (cases_Bool (default.owns q)) [
      | inl own ↦
          clear.only.leaves q (not_the_goal q own) ne ∙ same ∙ left q own
          ∙ sym (ap (λ b. cond (b || owns_goal q) (cond b (default.end w.leaves q) None) (get w.leaves q)) own)
      | inr beside ↦ elim (cases_Bool (owns_goal q)) [
        | inl own ↦
            cleared_at_end false v e is_e q own
            ∙ sym (ap (λ b. cond (b || owns_goal q) (cond b (default.end w.leaves q) None) (get w.leaves q)) beside ∙ ap (λ b. cond b None (get w.leaves q)) own)
        | inr neither ↦
            clear.only.leaves q neither ne ∙ same ∙ set.only.leaves q (or_from _ _ beside neither) ne ∙ at.only.leaves q (or_from _ _ beside neither) ne
            ∙ sym (ap (λ b. cond (b || owns_goal q) (cond b (default.end w.leaves q) None) (get w.leaves q)) beside ∙ ap (λ b. cond b None (get w.leaves q)) neither)
      ]
    ]
  where
    not_the_goal : (at : Name) → owns_profile at || owns_boot at ≡ true → owns_goal at ≡ false
    not_the_goal at own = false_by (owns_goal at) (reads_goal at) (λ is. (goal_is false).reads_own at is) (goal_unread_default at own)

-- ---- the moments and the end of a command

on_its_way : (moves : Option Move) (command : Command) (w m : WorldState) → IsUnderway command w m → IsOnItsWay moves command w m
on_its_way None command w m underway = underway
on_its_way (Some Set) command w m underway = underway
on_its_way (Some (Point n)) command w m underway = inl underway

module _ (command : Command) (owed : Owed) (order : List Name) (w : WorldState) (carried : IsCarriedFrom command owed order w) where
  abbrev start_up : Bool
  start_up = (row command w.leaves).start_up

  abbrev switches : Bool
  switches = (row command w.leaves).switches

  abbrev moves : Option Move
  moves = (row command w.leaves).moves

  abbrev system : Name
  system = new_system command w.leaves

  abbrev owners : OwnerIds
  owners = owners_after system w.leaves

  abbrev gens : Gens
  gens = gens_to moves system w.leaves

  abbrev first : Part
  first = part_if switches (switch_part start_up system owners)

  abbrev second : Part
  second = default_if moves system gens

  first_is : IsPart first
  first_is = switch_if_is start_up switches system carried.named owners

  are_gens : IsBootGens gens
  are_gens = gens_to_law moves system w.leaves carried.named

  second_is : IsPart second
  second_is = default_if_is moves system gens are_gens

  both_are : IsPart (both first second)
  both_are = parts_are start_up switches moves system carried.named owners gens are_gens

  pub set_free : IsFree second w.leaves
  set_free = second_free first second w.leaves carried.free.parts

  calls_none : (o : Option Move) → (default_if o system gens).calls ≡ false
  calls_none (Some move) = refl
  calls_none None = refl

  of_second : (v m : WorldState) → IsPartMoment second v m → IsPartMoment (both first second) v m
  of_second v m moment = second_moment first second first_is second_is (are_parted start_up switches moves system owners gens) v m moment

  -- a profile that isn't moved stands as it did
  profile_kept : (m : WorldState) → IsPartMoment (both first second) w m → moves ≡ None → IsProfileKept w.leaves m.leaves
  profile_kept m moment unmoved =
      let stays : (q : Name) → owns_profile q ≡ true → q ≢ stage → get m.leaves q ≡ get w.leaves q =
      λ q own ne. moment.only.leaves q (or_from _ _ (profile_not_own start_up switches system carried.named owners gens q own) (ap (λ mv. (default_if mv system gens).owns q) unmoved)) ne in
      record { links = λ n. stays (link_path n) (link_owned n) (link_not_stage n); same = stays profile profile_owned profile_not_stage }

  -- where the goal is as it was, or recorded, the command is underway
  underway_at : (m : WorldState) → IsPartMoment (both first second) w m → IsGoalKept moves w.leaves m.leaves → IsSteadyFor command w → IsUnderway command w m
  underway_at m moment kept steady =
      let same = row_same command gens w m carried.has moment.keeps.1 kept (profile_kept m moment) in
      underway command w m carried.on same (system_still command w.leaves m.leaves same (profile_kept m moment) carried.has) carried.named carried.free moment steady

  step_as : (m : WorldState) → IsStepTo start_up moves system (if_so switches system) w m → IsStepOf command w m
  step_as m step = subst (λ b. IsStepIf b start_up (cond b moves None) system (if_so (b && switches) system) w m) (sym carried.on) step

  to_as : (b m : WorldState) → NamesOneOf (if_moved moves system) b m → NamesOneOf (set_to command w.leaves) b m
  to_as b m names = subst (λ c. NamesOneOf (if_moved (cond c moves None) system) b m) (sym carried.on) names

  -- ---- the goal is recorded

  record_alone : (m : WorldState) → IsRecordStep moves w m → IsPartMoment second w m
  record_alone m step = record_part_moment moves system gens (small_row command w.leaves) are_gens w m step

  -- each moment of recording it is one of the command
  pub record_moment : (m : WorldState) → IsRecordStep moves w m → IsMomentOf command w m
  record_moment m step =
      let only = record_only moves w m step in
      record {
        step = step_as m (IsStepTo.Recording step);
        underway = λ steady. on_its_way moves command w m (underway_at m (of_second w m (record_alone m step)) (record_kept moves w m step) steady);
        entered = inl (ap (λ (k : ManagerState). k.journal) (only.manager refl));
        named = to_as w m (names_then (if_moved moves system) w w m (names_same (if_moved moves system)) (goal_names_same w m only));
        menu = menu_begins_law w.leaves m.leaves (goal_menu w m only);
      }
    where
      names_same : (to : Option Name) → NamesOneOf to w w
      names_same None = λ other. (λ is. is, λ is. is)
      names_same (Some name) = inl (λ other. (λ is. is, λ is. is))

  module _ (r : WorldState) (is_r : seen r ≡ record_world moves w) where
    last_record : IsRecordStep moves w r
    last_record = record_last moves w r is_r

    pub only_goal : IsOnly (goal_part false) w r
    only_goal = record_only moves w r last_record

    at_record : IsPartMoment second w r
    at_record = record_alone r last_record

    recorded : IsRecorded moves r.leaves
    recorded = recorded_at moves w r is_r

    same_part : default_in moves system r.leaves ≡ second
    same_part = default_kept moves system w r at_record.keeps

    -- the boot default is as free as before
    pub record_free : IsFree (default_in moves system r.leaves) r.leaves
    record_free = subst (λ (part : Part). IsFree part r.leaves) (sym same_part) (second_is.stays_free w r at_record.keeps set_free)

    to_r : IsMoveToBy moves system r.leaves
    to_r = move_to_kept moves system gens w r at_record.keeps (moves_to command w.leaves)

    -- ---- the system is made the boot default

    set_alone : (m : WorldState) → IsDefaultStep moves system r m → IsPartMoment second r m
    set_alone m step = subst (λ (part : Part). IsPartMoment part r m) same_part (set_part_moment system carried.named r moves record_free m step)

    set_of_parts : (m : WorldState) → IsDefaultStep moves system r m → IsPartMoment (both first second) w m
    set_of_parts m step = of_second w m (moment_then second second_is w r m at_record (set_alone m step))

    set_recorded : (m : WorldState) → IsDefaultStep moves system r m → IsRecorded moves m.leaves
    set_recorded m step = recorded_same moves r.leaves m.leaves (set_goal system carried.named r moves record_free m step) recorded

    set_named : (m : WorldState) → IsDefaultStep moves system r m → NamesOneOf (if_moved moves system) w m
    set_named m step = names_since (if_moved moves system) w r m (goal_names_same w r only_goal) (set_names moves system carried.named r m to_r record_free step)

    set_between : (m : WorldState) → IsDefaultStep moves system r m → IsMenuBetween w.leaves m.leaves
    set_between m step =
        menu_since_law r.leaves w.leaves m.leaves (λ q own. sym (goal_menu w r only_goal q own)) (goal_store w r only_goal) (set_menu system carried.named r moves to_r record_free m step)

    -- each moment of making the system the boot default is one of the command
    pub set_moment : (m : WorldState) → IsDefaultStep moves system r m → IsMomentOf command w m
    set_moment m step = record {
      step = step_as m (IsStepTo.Setting r is_r step);
      underway = λ steady. on_its_way moves command w m (underway_at m (set_of_parts m step) (kept_recorded moves w.leaves m.leaves (set_recorded m step)) steady);
      entered = inl (ap (λ (k : ManagerState). k.journal) (((set_alone m step).only.manager (calls_none moves)) ∙ at_record.only.manager (calls_none moves)));
      named = to_as w m (set_named m step);
      menu = set_between m step;
    }

    module _ (u : WorldState) (is : seen u ≡ default_world moves system r) where
      last_set : IsDefaultStep moves system r u
      last_set = set_step system carried.named r moves record_free u is

      pub alone_set : IsPartMoment second w u
      alone_set = moment_then second second_is w r u at_record (set_alone u last_set)

      at_set : IsPartMoment (both first second) w u
      at_set = set_of_parts u last_set

      pub same_manager : u.manager ≡ w.manager
      same_manager = alone_set.only.manager (calls_none moves)

      -- an activation sees the same as before
      pub activation_same : IsSameFor (activation_part system owners) w u
      activation_same =
          only_beside second (activation_part system owners) (activation_part_law system owners carried.named) (default_parted moves system owners gens).first (default_parted moves system owners gens).manager w u
          alone_set.only

      -- and so the tables that it leaves have the same owners
      same_owners : owners_after system u.leaves ≡ owners
      same_owners = owners_law system owners w u ((activation_part_law system owners carried.named).frame w u activation_same)

      pub switch_free : IsFree (part_if switches (switch_in start_up system u.leaves)) u.leaves
      switch_free =
          subst (λ (o : OwnerIds). IsFree (part_if switches (switch_part start_up system o)) u.leaves) (sym same_owners)
          (first_free first second u.leaves (both_are.stays_free w u at_set.keeps carried.free.parts))

      -- the units' part sees the same as before
      units_same : switches ≡ true → IsSameFor (units_part start_up system) w u
      units_same switched = by switches switched (are_parted start_up switches moves system owners gens).second
        where
          unchanged : (at : Name) → (second.owns at ≡ true → ⊥) → at ≢ stage → get u.leaves at ≡ get w.leaves at
          unchanged at none ne = elim (cases_Bool (second.owns at)) [
            | inl own ↦ absurd (none own)
            | inr other ↦ alone_set.only.leaves at other ne
          ]

          by : (b : Bool) → b ≡ true → ((at : Name) → second.owns at ≡ true → (part_if b (switch_part start_up system owners)).reads at ≡ false) → IsSameFor (units_part start_up system) w u
          by true same_b apart = record {
            leaves = λ at read. unchanged at (λ own. both_ways _ (apart at own) (or_left _ _ read)) (λ same. both_ways _ not_reads_stage (subst (λ x. reads_units x ≡ true) same read));
            manager = λ call. same_manager;
          }
          by false same_b apart = absurd (both_ways _ refl same_b)

      -- and so the same is owed, and the starts are in the same order
      pub owed_still : switches ≡ true → IsOwedBy start_up system u owed
      owed_still switched = owed_same start_up system w u (is_system system carried.named) (units_same switched) owed (carried.is_owed switched)

      -- and the same has to be written to record it
      pub written_still : switches ≡ true → (lists : Lists) (write : LogWrite) → IsWriteFor w.leaves lists write → IsWriteFor u.leaves lists write
      written_still switched = write_there start_up system w u (is_system system carried.named) (units_same switched)

      pub ordered_still : switches ≡ true → IsOrderedAt u.leaves system owed order
      ordered_still switched = order_same start_up system w u (is_system system carried.named) (units_same switched) owed order (carried.is_ordered switched)

      switch_moment_of : (m : WorldState) → IsSwitchMomentIf switches system owed order u m → IsPartMoment first u m
      switch_moment_of m moment =
          subst (λ (o : OwnerIds). IsPartMoment (part_if switches (switch_part start_up system o)) u m) same_owners
          (switch_if_moment start_up switches system carried.named owed order u m owed_still ordered_still switch_free moment)

      switch_of_parts : (m : WorldState) → IsSwitchMomentIf switches system owed order u m → IsPartMoment (both first second) w m
      switch_of_parts m moment =
          moment_then (both first second) both_are w u m at_set
          (first_moment first second first_is second_is (are_parted start_up switches moves system owners gens) u m (switch_moment_of m moment))

      switch_recorded : (m : WorldState) → IsSwitchMomentIf switches system owed order u m → IsRecorded moves m.leaves
      switch_recorded m moment =
          recorded_same moves u.leaves m.leaves ((switch_moment_of m moment).only.leaves goal_place (goal_not_own start_up switches system carried.named owners gens) goal_not_stage) (set_recorded u last_set)

      switch_named : (m : WorldState) → IsSwitchMomentIf switches system owed order u m → NamesOneOf (if_moved moves system) w m
      switch_named m moment =
          names_then (if_moved moves system) w u m (set_named u last_set) (switch_names start_up switches system carried.named owners gens u m (switch_moment_of m moment))

      switch_between : (m : WorldState) → IsSwitchMomentIf switches system owed order u m → IsMenuBetween w.leaves m.leaves
      switch_between m moment = switch_menu start_up switches system carried.named owners gens w.leaves u m (switch_moment_of m moment) (set_between u last_set)

      -- each moment of a switch of the units is one of the command
      pub switch_moment : (m : WorldState) → IsSwitchMomentIf switches system owed order u m → IsMomentOf command w m
      switch_moment m moment = record {
        step = step_as m (IsStepTo.Switching r u is_r is (switch_step start_up switches system owed order u m owed_still ordered_still moment));
        entered = inr (switch_enters command start_up switches system owed order w u m refl (sym (ap (λ b. if_so (b && switches) system) carried.on)) carried.is_owed carried.is_ordered same_manager moment);
        underway = λ steady. on_its_way moves command w m (underway_at m (switch_of_parts m moment) (kept_recorded moves w.leaves m.leaves (switch_recorded m moment)) steady);
        named = to_as w m (switch_named m moment);
        menu = switch_between m moment;
      }

      module _ (v : WorldState) (end : IsSwitchedIf switches system owed order u v) (moment : IsSwitchMomentIf switches system owed order u v) where
        -- ---- the goal is removed

        clear_of_parts : (m : WorldState) → IsClearStep moves v m → IsPartMoment (both first second) w m
        clear_of_parts m step = moment_then (both first second) both_are w v m (switch_of_parts v moment) (of_second v m (clear_part_moment moves system gens are_gens v m step))

        units : IsUnitsEnd start_up (if_so switches system) w v
        units = units_end start_up switches system owed order w u v carried.is_owed carried.is_ordered same_manager end

        -- the leaf that is left at each place
        left_at : (e : WorldState) → e ≡ cleared_by moves v → (q : Name) → q ≢ stage → get e.leaves q ≡ final_leaf (both first second) w.leaves q
        left_at e is_e q ne = elim (cases_Bool (first.owns q)) [
          | inl own ↦
              at_clear q (λ of_second. both_ways _ (second_unread q of_second) (first_is.reads_own q own)) ne
              ∙ switch_final start_up switches system owed order u v end q ne
              ∙ ap (λ (o : OwnerIds). final_leaf (part_if switches (switch_part start_up system o)) u.leaves q) same_owners
              ∙ ap (λ b. cond b (first.end u.leaves q) (get u.leaves q)) own ∙ first_is.same_end w u at_set.keeps.0 q own
              ∙ sym (ap (λ b. cond (b || second.owns q) (cond b (first.end w.leaves q) (second.end w.leaves q)) (get w.leaves q)) own)
          | inr none ↦
              of_others q ne none
              ∙ sym (ap (λ b. cond (b || second.owns q) (cond b (first.end w.leaves q) (second.end w.leaves q)) (get w.leaves q)) none)
        ]
          where
            second_unread : (at : Name) → second.owns at ≡ true → first.reads at ≡ false
            second_unread = (are_parted start_up switches moves system owners gens).second

            clear_step : IsClearStep moves v e
            clear_step = clear_last moves v e is_e

            at_clear : (at : Name) → (second.owns at ≡ true → ⊥) → at ≢ stage → get e.leaves at ≡ get v.leaves at
            at_clear at other not_stage = elim (cases_Bool (second.owns at)) [
              | inl own ↦ absurd (other own)
              | inr beside ↦ (clear_part_moment moves system gens are_gens v e clear_step).only.leaves at beside not_stage
            ]

            -- nothing of the switch is there
            not_switched : (at : Name) → at ≢ stage → first.owns at ≡ false → get v.leaves at ≡ get u.leaves at
            not_switched at not_stage beside = (switch_moment_of v moment).only.leaves at beside not_stage

            of_others : (at : Name) → at ≢ stage → first.owns at ≡ false → get e.leaves at ≡ final_leaf second w.leaves at
            of_others at not_stage beside = second_left moves system gens are_gens w r u v e at not_stage at_record (set_left moves system carried.named w r gens are_gens refl at_record record_free u is) (set_alone u last_set) (not_switched at not_stage beside) is_e

        -- the world that the steps leave is the one at the end of the command
        pub ends : (e : WorldState) → e ≡ cleared_by moves v → IsEndOf command w e
        ends e is_e =
            let brought : if_so switches system ≡ brought_to command w.leaves = sym (ap (λ b. if_so (b && switches) system) carried.on) in
            let same : e.manager ≡ v.manager = (clear_only moves v e (clear_last moves v e is_e)).manager refl in
            record {
              final = record {
                leaves = λ q ne. left_at e is_e q ne ∙ sym (ap (λ b. cond b (final_leaf (part_of command w.leaves) w.leaves q) (get w.leaves q)) carried.on);
                units = subst (λ to. AreFinalUnits start_up to w e) brought (units_as (if_so switches system) v e same units.units);
                bad = ap (λ (k : ManagerState). k.bad) same ∙ units.bad;
              };
              entries = units.entries;
              are_entered = subst (λ to. AreEntries start_up to w units.entries) brought units.are_entered;
              journal = ap (λ (k : ManagerState). k.journal) same ∙ units.journal;
            }
          where
            units_as : (to : Option Name) (v e : WorldState) → e.manager ≡ v.manager → AreFinalUnits start_up to w v → AreFinalUnits start_up to w e
            units_as None v e same is = (ap (λ (k : ManagerState). k.states) same ∙ is.0, ap (λ (k : ManagerState). k.loaded) same ∙ is.1)
            units_as (Some to) v e same is = (subst (λ (k : ManagerState). AreEndStates start_up to w (state_of k.states)) (sym same) is.0, ap (λ (k : ManagerState). k.loaded) same ∙ is.1)

        -- a rollback has come to its end once the goal is gone
        gone_on_its_way : (o : Option Move) → moves ≡ o → (m : WorldState) → m ≡ cleared_by o v → IsSteadyFor command w → IsOnItsWay o command w m
        gone_on_its_way None same m is_m steady =
            underway_at m (clear_of_parts m (clear_last moves v m (is_m ∙ ap (λ mv. cleared_by mv v) (sym same)))) (subst (λ mv. IsGoalKept mv w.leaves m.leaves) (sym same) tt) steady
        gone_on_its_way (Some Set) same m is_m steady =
            underway_at m (clear_of_parts m (clear_last moves v m (is_m ∙ ap (λ mv. cleared_by mv v) (sym same)))) (subst (λ mv. IsGoalKept mv w.leaves m.leaves) (sym same) tt) steady
        gone_on_its_way (Some (Point n)) same m is_m steady = inr (record {
          over = ended_over command w m (λ query. both_ways _ (query w.leaves) carried.on) (ends m (is_m ∙ ap (λ mv. cleared_by mv v) (sym same)));
          cleared = ap (λ (x : WorldState). get x.leaves goal_place) is_m ∙ get_removed_here v.leaves goal_place;
        })

        -- before that it is underway
        still_on_its_way : (m : WorldState) → m ≡ v → IsSteadyFor command w → IsOnItsWay moves command w m
        still_on_its_way m same steady =
            on_its_way moves command w m
            (subst (λ (x : WorldState). IsUnderway command w x) (sym same) (underway_at v (switch_of_parts v moment) (kept_recorded moves w.leaves v.leaves (switch_recorded v moment)) steady))

        clear_on_its_way : (o : Option Move) → moves ≡ o → (m : WorldState) → IsClearStep o v m → IsSteadyFor command w → IsOnItsWay moves command w m
        clear_on_its_way None same m step steady = still_on_its_way m step steady
        clear_on_its_way (Some move) same m step steady = ⊎_elim
            (λ old. still_on_its_way m old steady)
            (λ gone. subst (λ mv. IsOnItsWay mv command w m) (sym same) (gone_on_its_way (Some move) same m gone steady))
            step

        -- each moment of removing it is one of the command
        pub clear_moment : (m : WorldState) → IsClearStep moves v m → IsMomentOf command w m
        clear_moment m step =
            let only = clear_only moves v m step in
            record {
              step = step_as m (IsStepTo.Clearing r u v is_r is (switch_end start_up switches system owed order u v owed_still ordered_still end) step);
              underway = λ steady. clear_on_its_way moves refl m step steady;
              entered = inr (all_entered command w m units.entries (subst (λ to. AreEntries start_up to w units.entries) (sym (ap (λ b. if_so (b && switches) system) carried.on)) units.are_entered)
                  (ap (λ (k : ManagerState). k.journal) (only.manager refl) ∙ units.journal));
              named = to_as w m (names_then (if_moved moves system) w v m (switch_named v moment) (goal_names_same v m only));
              menu = menu_stays_law w.leaves v.leaves m.leaves (switch_between v moment) (goal_menu v m only) (goal_profile v m only);
            }
