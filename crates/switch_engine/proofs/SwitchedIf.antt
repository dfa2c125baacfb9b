-- A switch of the units, where a row has one, and where one is planned.
use Rattle.std.proofs.Common.{◌≡◌, Bool, true, false, is_some, List, Option, None, Some, sym, subst}
use Rattle.host_trait.specs.World.{WorldState}
use Rattle.owed_plan.specs.declared.owed.Owed.{Owed}
use Rattle.switch_engine.specs.declared.plan.SwitchPlan.{SwitchPlan}
use Rattle.switch_engine.specs.Carried.{IsSwitchMomentBy, IsSwitchedBy}
use Rattle.switch_engine.specs.Moments.{IsSwitchMoment, IsSwitched}
use Rattle.switch_engine.specs.Plan.{IsSwitchPlanned, units_in}
use Rattle.switch_names.specs.Names.{Name}
use Rattle.unit_stage.specs.declared.unit_plan.UnitPlan.{UnitPlan}

-- a moment of a switch of the units, where they are switched
abbrev pub IsSwitchMomentIf : Bool → Name → Owed → List Name → WorldState → WorldState → Type 0
IsSwitchMomentIf true system owed order u m = IsSwitchMoment system owed order u m
IsSwitchMomentIf false system owed order u m = m ≡ u

-- the world that a switch of the units leaves, where they are switched
abbrev pub IsSwitchedIf : Bool → Name → Owed → List Name → WorldState → WorldState → Type 0
IsSwitchedIf true system owed order u v = IsSwitched system owed order u v
IsSwitchedIf false system owed order u v = v ≡ u

-- the units are switched where a switch is planned
pub switches_same : (start_up switches : Bool) (system : Name) (w : WorldState) (plan : Option SwitchPlan) → IsSwitchPlanned start_up switches system w plan → is_some plan ≡ switches
switches_same start_up switches system w None planned = sym planned
switches_same start_up switches system w (Some plan) planned = sym planned.0

module _ (start_up switches : Bool) (system : Name) (w : WorldState) (nothing : UnitPlan) where
  -- what is planned of a switch is a switch of the row
  pub moment_planned : (plan : Option SwitchPlan) → IsSwitchPlanned start_up switches system w plan → (u m : WorldState) → IsSwitchMomentBy system plan u m →
      IsSwitchMomentIf switches system (units_in plan nothing).owed (units_in plan nothing).ordered.units u m
  moment_planned None off u m same = subst (λ b. IsSwitchMomentIf b system nothing.owed nothing.ordered.units u m) (sym off) same
  moment_planned (Some plan) planned u m moment = subst (λ b. IsSwitchMomentIf b system plan.units.owed plan.units.ordered.units u m) (sym planned.0) moment

  pub end_planned : (plan : Option SwitchPlan) → IsSwitchPlanned start_up switches system w plan → (u v : WorldState) → IsSwitchedBy system plan u v →
      IsSwitchedIf switches system (units_in plan nothing).owed (units_in plan nothing).ordered.units u v
  end_planned None off u v same = subst (λ b. IsSwitchedIf b system nothing.owed nothing.ordered.units u v) (sym off) same
  end_planned (Some plan) planned u v end = subst (λ b. IsSwitchedIf b system plan.units.owed plan.units.ordered.units u v) (sym planned.0) end
