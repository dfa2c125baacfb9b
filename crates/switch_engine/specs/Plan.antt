-- What is planned for a command: NixOS manual, "What happens during a system switch?".
use Rattle.std.specs.Prelude.{◌≡◌, Bool, true, false, Option, None, Some, IsSome, option_map}
use Rattle.activation_stage.specs.ActivationPart.{IsActivationPlanOf}
use Rattle.activation_stage.specs.declared.activation_plan.ActivationPlan.{ActivationPlan}
use Rattle.boot_entries.specs.BootDefault.{IsDefaultFor, IsDefaultPlanOf}
use Rattle.boot_entries.specs.declared.boot_default.BootDefaultPlan.{BootDefaultPlan}
use Rattle.generations.specs.declared.gens.Gens.{Gens}
use Rattle.generations.specs.declared.moving.Move.{Move}
use Rattle.generations.specs.Gens.{IsGensOf}
use Rattle.host_trait.specs.World.{Leaves, WorldState}
use Rattle.owed_log.specs.Writing.{IsFilled}
use Rattle.switch_engine.specs.declared.plan.Plan.{Plan}
use Rattle.switch_engine.specs.declared.plan.SwitchPlan.{SwitchPlan}
use Rattle.switch_engine.specs.declared.row.Row.{Row}
use Rattle.switch_engine.specs.Commands.{row}
use Rattle.switch_engine.specs.Owing.{Refuses}
use Rattle.switch_names.specs.SystemName.{IsSystemPath}
use Rattle.switch_names.specs.Names.{Name}
use Rattle.unit_stage.specs.declared.unit_plan.UnitPlan.{UnitPlan}
use Rattle.unit_stage.specs.Plan.{IsUnitPlanOf, no_units}

-- what is done to the units, or else nothing
abbrev pub units_in : Option SwitchPlan → UnitPlan → UnitPlan
units_in None nothing = nothing
units_in (Some switch) nothing = switch.units

-- what a plan does to the units
abbrev pub units_of : Plan → UnitPlan
units_of plan = units_in plan.switch plan.nothing

-- what a plan does to the accounts and to /etc, where it switches the units
abbrev pub activation_of : Plan → Option ActivationPlan
activation_of plan = option_map (λ switch. switch.activation) plan.switch

-- what is planned for a switch of the units to a system, where they are switched
abbrev pub IsSwitchPlanned : Bool → Bool → Name → WorldState → Option SwitchPlan → Type 0
IsSwitchPlanned start_up switches system w None = switches ≡ false
IsSwitchPlanned start_up switches system w (Some plan) = (switches ≡ true) × IsUnitPlanOf start_up system w plan.units × IsActivationPlanOf system w.leaves plan.activation

-- the generations that stand, where the profile is moved
abbrev pub AreGensBy : Option Move → Leaves → Option Gens → Type 0
AreGensBy moves leaves None = moves ≡ None
AreGensBy moves leaves (Some gens) = IsSome moves × IsGensOf leaves gens

-- what is planned for the profile and the boot menu, where the profile is moved to a system
abbrev pub IsDefaultPlanned : Option Move → Name → WorldState → Option BootDefaultPlan → Type 0
IsDefaultPlanned moves system w None = moves ≡ None
IsDefaultPlanned moves system w (Some plan) = (moves ≡ Some plan.to) × IsDefaultPlanOf plan.to system w.leaves plan

-- the parts that are planned for a row, and nothing else for the units
pub record ArePlanned (its : Row) (w : WorldState) (plan : Plan) : Type 0 where
  pub switch : IsSwitchPlanned its.start_up its.switches its.system w plan.switch
  pub boot_default : IsDefaultPlanned its.moves its.system w plan.boot_default
  pub nothing : plan.nothing ≡ no_units

-- where the profile is moved, the number is the one that its generations give the system, and the entries of the boot menu
-- are put at places of entries; and what is appended to record what is owed has bytes
pub record IsSound (plan : Plan) : Type 0 where
  pub default : (profile : BootDefaultPlan) → plan.boot_default ≡ Some profile → IsDefaultFor plan.row.system profile
  pub filled : IsFilled (units_of plan).write

-- the plan of a command that isn't refused
pub record IsPlanOf (w : WorldState) (plan : Plan) : Type 0 where
  pub resolved : plan.row ≡ row plan.command w.leaves
  pub planned : ArePlanned plan.row w plan
  pub named : IsSystemPath plan.row.system
  pub not_refused : Refuses plan.command w None
