-- A world has one report of a command, and the text of its plan is that.
use Rattle.std.proofs.Common.{◌≡◌, ℕ, Bool, true, false, List, Option, None, Some, Result, Ok, Err, IfOk, option_map, refl, ap, sym, subst, ◌∙◌}
use Rattle.activation_stage.specs.ActivationPart.{IsActivationPlanOf}
use Rattle.activation_stage.specs.declared.activation_plan.ActivationPlan.{ActivationPlan}
use Rattle.boot_entries.specs.declared.boot_default.BootDefaultPlan.{BootDefaultPlan}
use Rattle.generations.specs.declared.moving.Move.{Move}
use Rattle.host_trait.specs.States.{state_of}
use Rattle.host_trait.specs.World.{Leaves, WorldState}
use Rattle.log_text.specs.declared.lists.Lists.{Lists}
use Rattle.owed_plan.specs.declared.owed.Owed.{Owed}
use Rattle.owed_plan.specs.Calls.{calls_of}
use Rattle.owed_plan.specs.Owed.{IsPlan}
use Rattle.owed_plan.specs.Systems.{systems_at}
use Rattle.owed_plan.proofs.ListLemmas.{one_owed}
use Rattle.switch_engine.specs.declared.command.Command.{Command}
use Rattle.switch_engine.specs.declared.plan.Plan.{Plan}
use Rattle.switch_engine.specs.declared.plan.SwitchPlan.{SwitchPlan}
use Rattle.switch_engine.specs.declared.row.Row.{Row}
use Rattle.switch_engine.specs.Commands.{row}
use Rattle.switch_engine.specs.Plan.{IsPlanOf, IsDefaultPlanned, IsSwitchPlanned, activation_of, units_in, units_of}
use Rattle.switch_names.specs.Names.{Name}
use Rattle.unit_stage.specs.declared.unit_plan.UnitPlan.{UnitPlan}
use Rattle.unit_defs.specs.Units.{text_of}
use Rattle.unit_stage.specs.Order.{AreOrderedAt}
use Rattle.unit_stage.specs.Plan.{IsPlannedIn, IsUnitPlanOf}
use Rattle.unit_stage.specs.System.{current_system}
use Rattle.std.proofs.lemmas.Bool.{both_ways}
use Rattle.unit_stage.proofs.OrderLemmas.{one_in_order}
use Rattle.unit_stage.proofs.WaitingLemmas.{same_waiting}
use Rattle.dry_report.proofs.ActivationLemmas.{one_report}
use Rattle.dry_report.specs.Activation.{IsActivationReport}
use Rattle.dry_report.specs.Report.{IsReport, IsReportBy, IsUnitReport, number_by, number_of, profile_report, report_of}

-- ---- one report

same_planned : (start_up : Bool) (w : WorldState) (system : Name) (lists others : Lists) (one other : Owed) → IsPlannedIn start_up system w lists one → IsPlannedIn start_up system w others other → one ≡ other
same_planned start_up w system lists others one other is also =
    one_owed (systems_at w.leaves (current_system w.leaves) system) (state_of w.manager.states) lists one other is.planned
    (subst (λ (l : Lists). IsPlan (systems_at w.leaves (current_system w.leaves) system) (state_of w.manager.states) l other)
    (sym (same_waiting start_up w.leaves system lists others is.listed also.listed)) also.planned)

one_unit_report : (start_up : Bool) (number : Option ℕ) (system : Name) (w : WorldState) (one other : List ℕ) → IsUnitReport start_up number system w one → IsUnitReport start_up number system w other → one ≡ other
one_unit_report start_up number system w one other is also =
    is.is_text
    ∙ (λ i. report_of (current_system w.leaves) system number (calls_of (owed i) (ordered i).units (state_of w.manager.states)) (owed i).left (told i) (ordered i).cycles)
    ∙ sym also.is_text
  where
    owed : is.owed ≡ also.owed
    owed = same_planned start_up w system is.lists also.lists is.owed also.owed is.planned also.planned

    ordered : is.ordered ≡ also.ordered
    ordered = one_in_order (text_of w.leaves system) also.owed.lists.starts is.ordered also.ordered (subst (λ (o : Owed). AreOrderedAt w.leaves system o is.ordered) owed is.in_order) also.in_order

    told : is.activation ≡ also.activation
    told = one_report system w.leaves is.activation also.activation is.is_activation also.is_activation

one_by : (start_up switches : Bool) (number : Option ℕ) (system : Name) (w : WorldState) (one other : List ℕ) → IsReportBy start_up switches number system w one → IsReportBy start_up switches number system w other → one ≡ other
one_by start_up true number system w one other is also = one_unit_report start_up number system w one other is also
one_by start_up false number system w one other is also = is ∙ sym also

pub one_told : (command : Command) (w : WorldState) (one other : List ℕ) → IsReport command w one → IsReport command w other → one ≡ other
one_told command w one other is also =
    let its = row command w.leaves in one_by its.start_up its.switches (number_by its.moves its.system w.leaves) its.system w one other is also

-- ---- the text of a plan

pub if_ok_as : {T E : Type 0} {P : T → Type 0} (r : Result T E) → IfOk r P → (Q : T → Type 0) → ((x : T) → P x → Q x) → IfOk r Q
if_ok_as (Ok x) holds Q weaker = weaker x holds
if_ok_as (Err e) holds Q weaker = tt

unit_report_is : (start_up : Bool) (system : Name) (w : WorldState) (plan : UnitPlan) (number : Option ℕ) (told text : List ℕ) → IsUnitPlanOf start_up system w plan → IsActivationReport system w.leaves told →
    text ≡ report_of plan.from system number plan.duties plan.owed.left told plan.ordered.cycles → IsUnitReport start_up number system w text
unit_report_is start_up system w plan number told text is is_told same = record {
  lists = is.lists;
  owed = plan.owed;
  planned = is.planned;
  ordered = plan.ordered;
  in_order = is.in_order;
  activation = told;
  is_activation = is_told;
  is_text = same
      ∙ ap (λ from. report_of from system number plan.duties plan.owed.left told plan.ordered.cycles) is.from
      ∙ ap (λ duties. report_of (current_system w.leaves) system number duties plan.owed.left told plan.ordered.cycles) is.duties;
}

-- the number of a plan is that of its world
number_is : (moves : Option Move) (system : Name) (w : WorldState) (o : Option BootDefaultPlan) → IsDefaultPlanned moves system w o → option_map (λ profile. profile.number) o ≡ number_by moves system w.leaves
number_is moves system w None planned = sym (ap (λ mv. number_by mv system w.leaves) planned)
number_is moves system w (Some plan) planned = ap Some planned.1.number ∙ sym (ap (λ mv. number_by mv system w.leaves) planned.0)

-- where the units are switched, the text of their plan is their report
switch_reported : (start_up switches : Bool) (system : Name) (w : WorldState) (plan : Option SwitchPlan) (nothing : UnitPlan) (number : Option ℕ) (text : List ℕ) → IsSwitchPlanned start_up switches system w plan → switches ≡ true →
    ((planned : ActivationPlan) → option_map (λ (switch : SwitchPlan). switch.activation) plan ≡ Some planned → IsActivationPlanOf system w.leaves planned →
    (told : List ℕ) × IsActivationReport system w.leaves told
    × (text ≡ report_of (units_in plan nothing).from system number (units_in plan nothing).duties (units_in plan nothing).owed.left told (units_in plan nothing).ordered.cycles)) → IsReportBy start_up switches number system w text
switch_reported start_up switches system w None nothing number text off on same = absurd (both_ways switches off on)
switch_reported start_up switches system w (Some plan) nothing number text planned on same =
    let told = same plan.activation refl planned.2 in
    subst (λ b. IsReportBy start_up b number system w text) (sym on) (unit_report_is start_up system w plan.units number told.0 text planned.1 told.1 told.2)

-- what is told of a plan whose text is this
abbrev pub IsTold : Plan → List ℕ → Type 0
IsTold plan text = (leaves : Leaves) (planned : ActivationPlan) → activation_of plan ≡ Some planned → IsActivationPlanOf plan.row.system leaves planned →
    (told : List ℕ) × IsActivationReport plan.row.system leaves told
    × (text ≡ report_of (units_of plan).from plan.row.system (number_of plan) (units_of plan).duties (units_of plan).owed.left told (units_of plan).ordered.cycles)

-- the report of a row is that of its command
abbrev IsReportOf : Row → WorldState → List ℕ → Type 0
IsReportOf its w text = IsReportBy its.start_up its.switches (number_by its.moves its.system w.leaves) its.system w text

-- where the units are switched
pub units_reported : (w : WorldState) (plan : Plan) (text : List ℕ) → IsPlanOf w plan → plan.row.switches ≡ true → IsTold plan text → IsReport plan.command w text
units_reported w plan text is on same =
    let its = plan.row in
    subst (λ (its : Row). IsReportOf its w text) is.resolved
    (subst (λ number. IsReportBy its.start_up its.switches number its.system w text) (number_is its.moves its.system w plan.boot_default is.planned.boot_default)
    (switch_reported its.start_up its.switches its.system w plan.switch plan.nothing (number_of plan) text is.planned.switch on (same w.leaves)))

-- where the profile alone is set
pub profile_reported : (w : WorldState) (plan : Plan) (text : List ℕ) → IsPlanOf w plan → plan.row.switches ≡ false → text ≡ profile_report plan.row.system (number_of plan) → IsReport plan.command w text
profile_reported w plan text is off same =
    let system = plan.row.system in
    subst (λ (its : Row). IsReportOf its w text) is.resolved
    (subst (λ b. IsReportBy plan.row.start_up b (number_by plan.row.moves system w.leaves) system w text) (sym off)
    (same ∙ ap (profile_report system) (number_is plan.row.moves system w plan.boot_default is.planned.boot_default)))
