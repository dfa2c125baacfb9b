-- What each step of carrying a plan out needs, and what it leaves: NixOS manual, "What happens during a system switch?".
use Rattle.std.specs.Prelude.{◌≡◌, Bool, Option, None, Some, IfSome, option_map}
use Rattle.activation_stage.specs.ActivationPart.{IsActivationPlanOf}
use Rattle.activation_stage.specs.declared.activation_plan.ActivationPlan.{ActivationPlan}
use Rattle.boot_entries.specs.BootDefault.{CanMakeDefault}
use Rattle.boot_entries.specs.declared.boot_default.BootDefaultPlan.{BootDefaultPlan}
use Rattle.generations.specs.declared.moving.Move.{Move}
use Rattle.generations.specs.declared.moving.Move.TheVariants.{Point, Set}
use Rattle.generations.specs.Goal.{goal_place}
use Rattle.host_trait.specs.States.{state_of}
use Rattle.host_trait.specs.World.{WorldState, seen, without_leaf}
use Rattle.owed_log.specs.Writing.{IsWriteFor}
use Rattle.owed_plan.specs.Calls.{calls_of}
use Rattle.switch_engine.specs.declared.plan.SwitchPlan.{SwitchPlan}
use Rattle.switch_engine.specs.Moments.{IsRecordStep, IsDefaultStep, IsSwitchMoment, IsSwitched, record_world, default_world}
use Rattle.switch_engine.specs.Presence.{where_some}
use Rattle.switch_engine.specs.Rows.{switch_in}
use Rattle.switch_names.specs.Names.{Name}
use Rattle.switch_names.specs.SystemName.{IsSystemPath}
use Rattle.switch_parts.specs.Part.{IsFree}
use Rattle.tree_put.specs.Put.{CanPut}
use Rattle.unit_stage.specs.declared.unit_plan.UnitPlan.{UnitPlan}
use Rattle.unit_stage.specs.Order.{IsOrderedAt}
use Rattle.unit_stage.specs.Plan.{IsOwedBy}

-- the move of the profile, where one is planned
abbrev pub moves_of : Option BootDefaultPlan → Option Move
moves_of plan = option_map (λ plan. plan.to) plan

-- the goal can be recorded, where the profile goes back to a generation
abbrev pub CanRecordBy : Option Move → WorldState → Type 0
CanRecordBy None w = Unit {0}
CanRecordBy (Some Set) w = Unit {0}
CanRecordBy (Some (Point n)) w = CanPut goal_place w

-- a system can be made the boot default, where that is planned
abbrev pub CanMakeBy : Name → Option BootDefaultPlan → WorldState → Type 0
CanMakeBy system plan w = IfSome plan (λ plan. CanMakeDefault system plan w)

-- what is owed, as the machine starts up or later, what has to be written to record it, the starts in order and the calls of a plan are
-- those of this world, and so is the activation, and nothing is in the way
pub record CanSwitch (system : Name) (plan : UnitPlan) (activation : ActivationPlan) (w : WorldState) : Type 0 where
  pub named : IsSystemPath system
  pub start_up : Bool
  pub is_owed : IsOwedBy start_up system w plan.owed
  pub write : IsWriteFor w.leaves plan.owed.lists plan.write
  pub in_order : IsOrderedAt w.leaves system plan.owed plan.ordered.units
  pub duties : plan.duties ≡ calls_of plan.owed plan.ordered.units (state_of w.manager.states)
  pub planned : IsActivationPlanOf system w.leaves activation
  pub free : IsFree (switch_in start_up system w.leaves) w.leaves

-- the same, where a switch of the units is planned
abbrev pub CanSwitchBy : Name → Option SwitchPlan → WorldState → Type 0
CanSwitchBy system plan w = IfSome plan (λ plan. CanSwitch system plan.units plan.activation w)

-- a moment of a switch of the units, where one is planned
abbrev pub IsSwitchMomentBy : Name → Option SwitchPlan → WorldState → WorldState → Type 0
IsSwitchMomentBy system plan u m = where_some (m ≡ u) (λ plan. IsSwitchMoment system plan.units.owed plan.units.ordered.units u m) plan

-- the world that a switch of the units leaves, where one is planned
abbrev pub IsSwitchedBy : Name → Option SwitchPlan → WorldState → WorldState → Type 0
IsSwitchedBy system plan u v = where_some (v ≡ u) (λ plan. IsSwitched system plan.units.owed plan.units.ordered.units u v) plan

-- the world without the goal, where the profile is moved
abbrev pub cleared_by : Option Move → WorldState → WorldState
cleared_by None w = w
cleared_by (Some move) w = without_leaf goal_place w

-- the goal is recorded, where the profile goes back, and the system is the boot default, where the profile is moved
pub record IsPrepared (moves : Option Move) (system : Name) (w u : WorldState) : Type 0 where
  pub recorded : WorldState
  pub is_recorded : seen recorded ≡ record_world moves w
  pub is_set : seen u ≡ default_world moves system recorded

-- the goal is being recorded, or it is recorded and the system is being made the boot default
pub data IsPreparing (moves : Option Move) (system : Name) (w m : WorldState) : Type 0 where
  Recording : IsRecordStep moves w m → IsPreparing moves system w m
  Setting : (r : WorldState) → seen r ≡ record_world moves w → IsDefaultStep moves system r m → IsPreparing moves system w m
