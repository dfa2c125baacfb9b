-- A command that switches no units makes the same report where it was cut and is made again.
use Rattle.std.proofs.Common.{◌≡◌, ◌^◌, ◌<◌, ◌&&◌, ◌↔◌, ℕ, Bool, true, false, cond, List, [], ◌∷◌, Option, None, Some, refl, sym, ap, subst, ◌∙◌, inl, inr, arith}
use Rattle.std.proofs.lemmas.Bool.{both_ways, cases_Bool}
use Rattle.std.proofs.lemmas.Option.{none-some}
use Rattle.std.specs.FinMap.{get}
use Rattle.std.specs.List.{AllByRecursion}
use Rattle.boot_entries.specs.BootDefault.{boot_default_in, menu_after}
use Rattle.boot_entries.specs.BootPart.{boot_part}
use Rattle.boot_entries.specs.Steps.{with_menu}
use Rattle.generations.specs.After.{gens_after}
use Rattle.generations.specs.declared.gens.Gens.{Gens}
use Rattle.generations.specs.declared.moving.Move.{Move}
use Rattle.generations.specs.declared.moving.Move.TheVariants.{Point, Set}
use Rattle.generations.specs.Goal.{goal_leaf, goal_place}
use Rattle.generations.specs.Move.{move_world}
use Rattle.generations.specs.Places.{link_name, number_after, profile}
use Rattle.generations.specs.ProfilePart.{profile_part}
use Rattle.generations.proofs.Apart.{one_link}
use Rattle.generations.proofs.Numbers.{below_bound}
use Rattle.generations.proofs.ProfileApart.{owned_other, profile_owned, stage_not_owned}
use Rattle.generations.proofs.ProfilePlaces.{number_of_free}
use Rattle.generations.proofs.SetLaws.{number_is}
use Rattle.generations.proofs.NamesLaws.{link_text}
use Rattle.host_trait.specs.declared.leaf.LeafKind.TheVariants.{Link}
use Rattle.host_trait.specs.World.{Leaves, WorldState, seen, stage, with_leaf}
use Rattle.owed_plan.specs.declared.owed.Owed.{Owed}
use Rattle.unit_stage.specs.Plan as unit_plans
use Rattle.switch_engine.specs.declared.command.Command.{Command}
use Rattle.switch_engine.specs.declared.row.Row.{Row}
use Rattle.switch_engine.specs.Commands.{brought_by, brought_to, goes_back, if_so, moved_by, new_system, row, switched_by}
use Rattle.switch_engine.specs.Final.{IsFinalOf}
use Rattle.activation_stage.specs.Owners.{owners_after}
use Rattle.etc_manifest.specs.Owners.{OwnerIds}
use Rattle.switch_engine.specs.Carried.{cleared_by}
use Rattle.switch_engine.specs.Moments.{IsMomentOf, IsStepIf, LeadsBy, record_world, default_world}
use Rattle.switch_engine.specs.Owing.{IsSteadyTo, IsUnderway}
use Rattle.switch_engine.specs.Rows.{final, goal_by, part_if, parts, parts_in, refusal, switch_in}
use Rattle.switch_engine.proofs.CarryLemmas.{IsCarriedFrom, ends}
use Rattle.switch_engine.proofs.LawLemmas.{never_back}
use Rattle.switch_engine.proofs.MovedPart.{default_in}
use Rattle.switch_engine.proofs.SwitchedIf.{IsSwitchMomentIf, IsSwitchedIf}
use Rattle.switch_engine.proofs.UnderwayLemmas.{free_command, has_a_system}
use Rattle.switch_names.specs.Names.{Name}
use Rattle.switch_names.specs.SystemName.{IsSystemPath}
use Rattle.switch_parts.specs.Part.{IsFree, final_leaf}
use Rattle.switch_parts.proofs.Parts.{first_free, second_free}
use Rattle.dry_report.specs.Report.{IsReport, IsReportBy, KeepsReport, number_by, profile_report}

-- ---- the number that a move of the profile alone gives its system

-- nothing is in the way of a move of the profile where its command isn't refused
move_free : (command : Command) (leaves : Leaves) → refusal command leaves ≡ None → IsFree (default_in (row command leaves).moves (row command leaves).system leaves) leaves
move_free command leaves none =
    let its = row command leaves in
    second_free (part_if its.switches (switch_in its.start_up its.system leaves)) (default_in its.moves its.system leaves) leaves (free_command command leaves none).parts

-- the profile names it at the end
profile_end : (start_up : Bool) (system : Name) (owners : OwnerIds) (gens : Gens) (leaves : Leaves) → final_leaf (parts start_up false (Some Set) system owners gens) leaves profile ≡ Some (Link (link_name (number_after leaves system)))
unfolding profile
profile_end start_up system owners gens leaves = refl

-- a command that brings no units into use doesn't go back
not_back : (command : Command) (leaves : Leaves) → brought_to command leaves ≡ None → goes_back command leaves ≡ false
not_back (Command.Switch system) leaves none = refl
not_back (Command.Test system) leaves none = refl
not_back (Command.Boot system) leaves none = refl
not_back (Command.DryActivate system) leaves none = refl
not_back Command.Rollback leaves none = absurd (none-some (new_system Command.Rollback leaves) (sym none))
not_back Command.StartUp leaves none = refl

module _ (command : Command) (its : Row) (on : its.changes ≡ true) (off : its.switches ≡ false) where
  abbrev moves : Option Move
  moves = its.moves

  abbrev system : Name
  system = its.system

  module _ (named : moves ≡ Some Set) where
    final_link : (leaves : Leaves) → row command leaves ≡ its → final command leaves profile ≡ Some (Link (link_name (number_after leaves system)))
    final_link leaves is =
        let owners = owners_after system leaves in
        let gens = gens_after system leaves in
        ap (λ (r : Row). cond r.changes (final_leaf (parts_in r.start_up r.switches r.moves r.system leaves) leaves profile) (get leaves profile)) is
        ∙ (λ i. cond (on i) (final_leaf (parts_in its.start_up (off i) (named i) system leaves) leaves profile) (get leaves profile))
        ∙ profile_end its.start_up system owners gens leaves

    small_number : (leaves : Leaves) → row command leaves ≡ its → refusal command leaves ≡ None → number_after leaves system < 2 ^ 64
    small_number leaves is none =
        let free = subst (λ mv. IsFree (default_in mv system leaves) leaves) named (subst (λ (r : Row). IsFree (default_in r.moves r.system leaves) leaves) is (move_free command leaves none)) in
        let further = number_of_free system leaves (first_free (profile_part system) (boot_part (gens_after system leaves)) leaves (first_free (boot_default_in Set system leaves) (goal_by Set) leaves free)) in
        let below = below_bound (number_after leaves system) (number_is leaves system further) in
        omega arith

    module _ (w m : WorldState) (here : row command w.leaves ≡ its) (not_refused : refusal command w.leaves ≡ None) (underway : IsUnderway command w m) (end : WorldState) (is_end : IsFinalOf command w end) where
      there : row command m.leaves ≡ its
      there = underway.same_row ∙ here

      same_final : final command m.leaves profile ≡ final command w.leaves profile
      same_final =
          let apart = owned_other profile stage profile_owned stage_not_owned in
          sym (((underway.same_end end).1 is_end).leaves profile apart) ∙ is_end.leaves profile apart

      -- it is the same where the command is underway, since the same end is
      same_number : number_after m.leaves system ≡ number_after w.leaves system
      same_number = one_link _ _ (small_number m.leaves there underway.not_refused) (small_number w.leaves here not_refused)
          (link_text _ _ (sym (final_link m.leaves there) ∙ same_final ∙ final_link w.leaves here))

  number_same : (w m : WorldState) → row command w.leaves ≡ its → refusal command w.leaves ≡ None → IsUnderway command w m → (end : WorldState) → IsFinalOf command w end →
      number_by moves system m.leaves ≡ number_by moves system w.leaves
  number_same w m here none underway end is_end = by moves refl
    where
      by : (o : Option Move) → moves ≡ o → number_by moves system m.leaves ≡ number_by moves system w.leaves
      by None is = ap (λ mv. number_by mv system m.leaves) is ∙ sym (ap (λ mv. number_by mv system w.leaves) is)
      by (Some Set) is =
          ap (λ mv. number_by mv system m.leaves) is ∙ ap Some (same_number is w m here none underway end is_end) ∙ sym (ap (λ mv. number_by mv system w.leaves) is)
      by (Some (Point n)) is = ap (λ mv. number_by mv system m.leaves) is ∙ sym (ap (λ mv. number_by mv system w.leaves) is)

  underway_from : (w m : WorldState) → row command w.leaves ≡ its → goes_back command w.leaves ≡ false → IsMomentOf command w m → IsUnderway command w m
  underway_from w m here ahead moment =
      never_back (row command w.leaves).moves command w m ahead
      (moment.underway (subst (λ (r : Row). IsSteadyTo r.start_up (switched_by r) w) (sym here) (subst (λ b. IsSteadyTo its.start_up (if_so b system) w) (sym off) tt)))

  set_reports : (w m : WorldState) → row command w.leaves ≡ its → goes_back command w.leaves ≡ false → refusal command w.leaves ≡ None → IsMomentOf command w m → (end : WorldState) → IsFinalOf command w end → (text : List ℕ) →
      IsReport command m text ↔ IsReport command w text
  set_reports w m here ahead none moment end is_end text =
      let underway = underway_from w m here ahead moment in
      let same : profile_report system (number_by moves system m.leaves) ≡ profile_report system (number_by moves system w.leaves) = ap (profile_report system) (number_same w m here none underway end is_end) in
      subst (λ (r : Row). IsReportBy r.start_up r.switches (number_by r.moves r.system m.leaves) r.system m text ↔ IsReport command w text) (sym (underway.same_row ∙ here))
      (subst (λ (r : Row). IsReportBy its.start_up its.switches (number_by moves system m.leaves) system m text ↔ IsReportBy r.start_up r.switches (number_by r.moves r.system w.leaves) r.system w text) (sym here)
      (subst (λ b. IsReportBy its.start_up b (number_by moves system m.leaves) system m text ↔ IsReportBy its.start_up b (number_by moves system w.leaves) system w text) (sym off)
      (λ is. is ∙ same, λ is. is ∙ sym same)))

-- a world that the command leaves
module _ (command : Command) (w : WorldState) (on : (row command w.leaves).changes ≡ true) (off : (row command w.leaves).switches ≡ false)
    (named : IsSystemPath (row command w.leaves).system) (none : refusal command w.leaves ≡ None) where
  abbrev its_moves : Option Move
  its_moves = (row command w.leaves).moves

  abbrev its_system : Name
  its_system = (row command w.leaves).system

  abbrev nothing : Owed
  nothing = unit_plans.no_units.owed

  carried : IsCarriedFrom command nothing [] w
  carried = record {
    on = on;
    has = has_a_system command w.leaves none;
    named = named;
    free = free_command command w.leaves none;
    is_owed = λ switched. absurd (both_ways _ off switched);
    is_ordered = λ switched. absurd (both_ways _ off switched);
  }

  recorded_in : (moves : Option Move) → (r : WorldState) × (seen r ≡ record_world moves w)
  recorded_in None = (w, refl)
  recorded_in (Some Set) = (w, refl)
  recorded_in (Some (Point n)) = (with_leaf goal_place (goal_leaf n) w, refl)

  set_in : (moves : Option Move) (r : WorldState) → (u : WorldState) × (seen u ≡ default_world moves its_system r)
  set_in None r = (r, refl)
  set_in (Some move) r = (with_menu (menu_after move its_system r.leaves) (move_world move its_system r), refl)

  abbrev first_left : WorldState
  first_left = (set_in its_moves (recorded_in its_moves).0).0

  abbrev left : WorldState
  left = cleared_by its_moves first_left

  is_left : IsFinalOf command w left
  is_left =
      let r = recorded_in its_moves in
      let u = set_in its_moves r.0 in
      (ends command nothing [] w carried r.0 r.1 u.0 u.1 u.0 (subst (λ b. IsSwitchedIf b its_system nothing [] u.0 u.0) (sym off) refl) (subst (λ b. IsSwitchMomentIf b its_system nothing [] u.0 u.0) (sym off) refl) left refl).final

-- ---- a moment, and a chain of them

-- a row that changes something and brings no units into use doesn't switch them
no_units : (its : Row) → its.changes ≡ true → brought_by its ≡ None → its.switches ≡ false
no_units its on none = by its.changes its.switches on none
  where
    by : (changes switches : Bool) → changes ≡ true → if_so (changes && switches) its.system ≡ None → switches ≡ false
    by changes true on none = absurd (none-some its.system (sym none ∙ ap (λ b. if_so (b && true) its.system) on))
    by changes false on none = refl

pub keeps_same : (command : Command) (w m : WorldState) → m ≡ w → KeepsReport command w m
keeps_same command w m same units text =
    (λ is. subst (λ (x : WorldState). IsReport command x text) same is, λ is. subst (λ (x : WorldState). IsReport command x text) (sym same) is)

abbrev Step : Command → WorldState → WorldState → Bool → Type 0
Step command w m changes = IsStepIf changes (row command w.leaves).start_up (moved_by (row command w.leaves)) (new_system command w.leaves) (brought_to command w.leaves) w m

-- a moment keeps the report where the command leaves some world
keeps_by : (command : Command) (w m : WorldState) → refusal command w.leaves ≡ None → IsMomentOf command w m → (end : WorldState) → IsFinalOf command w end → KeepsReport command w m
keeps_by command w m none moment end is_end units text = elim (cases_Bool (row command w.leaves).changes) [
  | inl on ↦ set_reports command (row command w.leaves) on (no_units (row command w.leaves) on units) w m refl (not_back command w.leaves units) none moment end is_end text
  | inr query ↦ keeps_same command w m (subst (Step command w m) query moment.step) units text
]

-- and so it does where its system is one
pub keeps_report : (command : Command) (w m : WorldState) → IsSystemPath (new_system command w.leaves) → refusal command w.leaves ≡ None → IsMomentOf command w m → KeepsReport command w m
keeps_report command w m named none moment units text = elim (cases_Bool (row command w.leaves).changes) [
  | inl on ↦
      let off = no_units (row command w.leaves) on units in
      keeps_by command w m none moment (left command w on off named none) (is_left command w on off named none) units text
  | inr query ↦ keeps_same command w m (subst (Step command w m) query moment.step) units text
]

-- the row is the same at a moment of a command that switches no units
row_kept : (command : Command) (w m : WorldState) → brought_to command w.leaves ≡ None → IsMomentOf command w m → row command m.leaves ≡ row command w.leaves
row_kept command w m units moment = elim (cases_Bool (row command w.leaves).changes) [
  | inl on ↦ (underway_from command (row command w.leaves) on (no_units (row command w.leaves) on units) w m refl (not_back command w.leaves units) moment).same_row
  | inr query ↦ ap (λ (x : WorldState). row command x.leaves) (subst (Step command w m) query moment.step)
]

keeps_then : (command : Command) (first w m : WorldState) → row command w.leaves ≡ row command first.leaves → KeepsReport command first w → KeepsReport command w m → KeepsReport command first m
keeps_then command first w m same before after units text =
    let one = before units text in
    let then = after (ap brought_by same ∙ units) text in
    (λ is. one.0 (then.0 is), λ is. then.1 (one.1 is))

-- a command that switches no units isn't refused where it is made again
still_free : (command : Command) (w m : WorldState) → brought_to command w.leaves ≡ None → refusal command w.leaves ≡ None → IsMomentOf command w m → refusal command m.leaves ≡ None
still_free command w m units none moment = elim (cases_Bool (row command w.leaves).changes) [
  | inl on ↦ (underway_from command (row command w.leaves) on (no_units (row command w.leaves) on units) w m refl (not_back command w.leaves units) moment).not_refused
  | inr query ↦ subst (λ (x : WorldState). refusal command x.leaves ≡ None) (sym (subst (Step command w m) query moment.step)) none
]

-- what the last of a chain leaves is what the first would have left
final_of_led : (command : Command) (cuts : List WorldState) (w v : WorldState) → brought_to command w.leaves ≡ None → refusal command w.leaves ≡ None → LeadsBy command cuts w v → IsFinalOf command w v
final_of_led command [] w v units none led = led.final
final_of_led command (m ∷ cuts) w v units none led =
    let last = final_of_led command cuts m v (ap brought_by (row_kept command w m units led.0) ∙ units) (still_free command w m units none led.0) led.1 in
    elim (cases_Bool (row command w.leaves).changes) [
      | inl on ↦
          let off = no_units (row command w.leaves) on units in
          ((underway_from command (row command w.leaves) on off w m refl (not_back command w.leaves units) led.0).same_end v).0 last
      | inr query ↦ subst (λ (x : WorldState). IsFinalOf command x v) (subst (Step command w m) query led.0.step) last
    ]

from_first : (command : Command) (first : WorldState) → brought_to command first.leaves ≡ None → (cuts : List WorldState) (w v : WorldState) → row command w.leaves ≡ row command first.leaves → KeepsReport command first w →
    refusal command w.leaves ≡ None → LeadsBy command cuts w v → AllByRecursion (KeepsReport command first) cuts
from_first command first units [] w v same before none led = tt
from_first command first units (m ∷ cuts) w v same before none led =
    let here = ap brought_by same ∙ units in
    let now = keeps_then command first w m same before (keeps_by command w m none led.0 v (final_of_led command (m ∷ cuts) w v here none led)) in
    (now, from_first command first units cuts m v (row_kept command w m here led.0 ∙ same) now (still_free command w m here none led.0) led.1)

pub rerun_reports : (command : Command) (cuts : List WorldState) (first last : WorldState) → brought_to command first.leaves ≡ None → refusal command first.leaves ≡ None →
    LeadsBy command cuts first last → AllByRecursion (KeepsReport command first) cuts
rerun_reports command cuts first last units none led = from_first command first units cuts first last refl (keeps_same command first first refl) none led
