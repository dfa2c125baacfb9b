-- What a command says before it changes anything: the lines of switch-to-configuration, NixOS manual, "Unit handling".
use Rattle.std.specs.Prelude.{◌≡◌, ◌↔◌, ℕ, ◌++◌, Bool, true, false, List, [], ◌∷◌, Option, None, Some, codes, filter, not, option_map}
use Rattle.std.specs.Fmt.{decimal}
use Rattle.std.specs.List.{flat_map}
use Rattle.generations.specs.declared.moving.Move.{Move}
use Rattle.generations.specs.Move.{number_moved}
use Rattle.host_trait.specs.States.{state_of}
use Rattle.host_trait.specs.World.{Leaves, WorldState}
use Rattle.host_trait.specs.Words.{act_word}
use Rattle.log_text.specs.declared.lists.Lists.{Lists}
use Rattle.owed_plan.specs.declared.duty.Duty.{Duty}
use Rattle.owed_plan.specs.declared.owed.Owed.{Owed}
use Rattle.owed_plan.specs.Calls.{calls_of}
use Rattle.start_order.specs.declared.ordered.Cycle.{Cycle}
use Rattle.start_order.specs.declared.ordered.Ordered.{Ordered}
use Rattle.switch_engine.specs.declared.command.Command.{Command}
use Rattle.switch_engine.specs.declared.plan.Plan.{Plan}
use Rattle.switch_engine.specs.Commands.{brought_to, row}
use Rattle.switch_names.specs.Names.{Name}
use Rattle.unit_stage.specs.Order.{AreOrderedAt}
use Rattle.unit_stage.specs.Owes.{is_stop}
use Rattle.unit_stage.specs.Plan.{IsPlannedIn}
use Rattle.unit_stage.specs.System.{current_system}
use Rattle.dry_report.specs.Activation.{IsActivationReport}

-- a line of two words
abbrev pub line : List ℕ → List ℕ → List ℕ
line word rest = word ++ (32 ∷ (rest ++ 10 ∷ []))

-- the system in use, or that there is none
abbrev pub system_text : Option Name → List ℕ
system_text None = codes "none"
system_text (Some system) = system

-- the line of a call
abbrev pub duty_line : Duty → List ℕ
duty_line duty = line (act_word duty.act) duty.unit

-- the lines of the stops
abbrev pub stop_lines : List Duty → List ℕ
stop_lines duties = flat_map duty_line (filter (λ duty. is_stop duty.act) duties)

-- the lines of the other calls
abbrev pub other_lines : List Duty → List ℕ
other_lines duties = flat_map duty_line (filter (λ duty. not (is_stop duty.act)) duties)

-- the line of a cycle: its units, each of which is to be started after the next one
abbrev pub cycle_line : Cycle → List ℕ
cycle_line cycle = codes "cycle" ++ (flat_map (λ unit. 32 ∷ unit) cycle.units ++ 10 ∷ [])

-- the line of the generation that the profile names then, where it is moved
abbrev pub generation_line : Option ℕ → List ℕ
generation_line None = []
generation_line (Some number) = line (codes "generation") (decimal number)

-- the two systems, the generation, the stops, and the changed units that get nothing
abbrev pub report_front : Option Name → Name → Option ℕ → List Duty → List Name → List ℕ
report_front from to number duties left =
    line (codes "from") (system_text from)
    ++ line (codes "to") to
    ++ generation_line number
    ++ stop_lines duties
    ++ flat_map (line (codes "leave")) left

-- then what is told of the accounts and of /etc, the cycles among the starts, and the other calls
abbrev pub report_of : Option Name → Name → Option ℕ → List Duty → List Name → List ℕ → List Cycle → List ℕ
report_of from to number duties left activation cycles = report_front from to number duties left ++ (activation ++ (flat_map cycle_line cycles ++ other_lines duties))

-- the report of a switch of the units to a system, from a world, and the number of the generation where the profile is moved
pub record IsUnitReport (start_up : Bool) (number : Option ℕ) (system : Name) (w : WorldState) (text : List ℕ) : Type 0 where
  pub lists : Lists
  pub owed : Owed
  pub planned : IsPlannedIn start_up system w lists owed
  pub ordered : Ordered
  pub in_order : AreOrderedAt w.leaves system owed ordered
  pub activation : List ℕ
  pub is_activation : IsActivationReport system w.leaves activation
  pub is_text : text ≡ report_of (current_system w.leaves) system number (calls_of owed ordered.units (state_of w.manager.states)) owed.left activation ordered.cycles

-- the report of a move of the profile alone: the system, and the number of its generation
abbrev pub profile_report : Name → Option ℕ → List ℕ
profile_report system number = line (codes "to") system ++ generation_line number

-- the number of the generation to which a plan moves the profile, where it does
abbrev pub number_of : Plan → Option ℕ
number_of plan = option_map (λ profile. profile.number) plan.boot_default

-- the number of the generation that is current after a move of the profile to a system, where it is moved
abbrev pub number_by : Option Move → Name → Leaves → Option ℕ
number_by None system leaves = None
number_by (Some move) system leaves = Some (number_moved move system leaves)

-- the report about a system, to which the units are switched, or the profile alone is moved
abbrev pub IsReportBy : Bool → Bool → Option ℕ → Name → WorldState → List ℕ → Type 0
IsReportBy start_up true number system w text = IsUnitReport start_up number system w text
IsReportBy start_up false number system w text = text ≡ profile_report system number

-- the report of a command, from a world
abbrev pub IsReport : Command → WorldState → List ℕ → Type 0
IsReport command w text =
    let its = row command w.leaves in IsReportBy its.start_up its.switches (number_by its.moves its.system w.leaves) its.system w text

-- From the second of two worlds a command makes the report that it makes from the first, unless it switches units: what
-- a switch of them has done it doesn't report again.
abbrev pub KeepsReport : Command → WorldState → WorldState → Type 0
KeepsReport command w m = brought_to command w.leaves ≡ None → (text : List ℕ) → IsReport command m text ↔ IsReport command w text
