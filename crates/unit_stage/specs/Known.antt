-- What is read of a world before a switch is planned: NixOS manual, "What happens during a system switch?".
use Rattle.std.specs.Prelude.{◌≡◌, ◌≢◌, ◌&&◌, ◌||◌, ◌↔◌, ℕ, Bool, IsTrue, List, is_some}
use Rattle.std.specs.List.Sorted.{IsStrictlySortedBy}
use Rattle.host_trait.specs.States.{state_of}
use Rattle.host_trait.specs.World.{Leaves, WorldState, bytes_cmp}
use Rattle.log_text.specs.declared.lists.Lists.{Lists}
use Rattle.log_text.specs.declared.lists.Which.{Which}
use Rattle.log_text.specs.declared.lists.Which.TheVariants.{Starts}
use Rattle.log_text.specs.Lists.{list_names}
use Rattle.owed_log.specs.Standing.{IsLogState}
use Rattle.owed_log.specs.Writing.{IsWriteFor}
use Rattle.owed_plan.specs.Calls.{calls_of}
use Rattle.owed_plan.specs.Collected.{IsListBy}
use Rattle.owed_plan.specs.Lists.{Debt}
use Rattle.owed_plan.specs.Owed.{IsDue, IsPlan}
use Rattle.owed_plan.specs.Steady.{IsSteady}
use Rattle.owed_plan.specs.Systems.{AreOldDefs, systems_in}
use Rattle.switch_names.specs.Names.{IsListOf, Name, has, is_name}
use Rattle.unit_defs.specs.declared.unit.Unit.{Unit}
use Rattle.unit_defs.specs.Defs.{AreDefsOf, found_in}
use Rattle.unit_stage.specs.declared.known.Known.{Known}
use Rattle.unit_stage.specs.declared.known.OldSystem.{OldSystem}
use Rattle.unit_stage.specs.declared.known.UnitStates.{UnitStates}
use Rattle.unit_stage.specs.declared.unit_plan.UnitPlan.{UnitPlan}
use Rattle.unit_stage.specs.declared.planning.OwedCalls.{OwedCalls}
use Rattle.unit_stage.specs.Order.{AreInOrder}
use Rattle.unit_stage.specs.Owes.{FitInEach}
use Rattle.unit_stage.specs.System.{current_system}
use Rattle.unit_stage.specs.Waiting.{AreListsFor, start_up_target}

-- this is the system in use, with its units
pub record IsOldOf (leaves : Leaves) (old : OldSystem) : Type 0 where
  pub name : old.name ≡ current_system leaves
  pub defs : AreOldDefs leaves (current_system leaves) old.defs

-- these are the states of the units and the lists of a world, and this stands at the place of the log
pub record AreStatesOf (start_up : Bool) (system : List ℕ) (w : WorldState) (units : UnitStates) : Type 0 where
  pub states : units.states ≡ w.manager.states
  pub lists : AreListsFor start_up w.leaves system units.lists
  pub log : IsLogState w.leaves units.log

-- the lists that stand, as a switch to a system with these units takes them: the target of a start-up joined where it is defined
pub record AreTaken (start_up : Bool) (new : List Unit) (stored lists : Lists) : Type 0 where
  pub starts : IsStrictlySortedBy bytes_cmp stored.starts →
      IsListBy lists.starts (λ unit. (start_up && (is_name unit start_up_target && is_some (found_in new unit))) || has stored.starts unit)
  pub others : (which : Which) → which ≢ Starts → list_names lists which ≡ list_names stored which

-- all this is so in a world
pub record IsKnownOf (start_up : Bool) (system : List ℕ) (w : WorldState) (known : Known) : Type 0 where
  pub old : IsOldOf w.leaves known.old
  pub new : AreDefsOf w.leaves system known.new
  pub units : AreStatesOf start_up system w known.units

-- by what is known a unit is owed something
abbrev pub OwesKnown : Known → Name → Type 0
OwesKnown known unit = (debt : Debt) × IsDue (systems_in known.old.defs known.new) (state_of known.units.states) known.units.lists debt unit

-- by what is known the marks of the targets and the lists don't contradict each other, and a log has room for the names of the
-- units that are owed something in each of its lists
pub record IsKnownSteady (known : Known) : Type 0 where
  pub marks : IsSteady (systems_in known.old.defs known.new) (state_of known.units.states) known.units.lists
  pub room : (names : List Name) → IsListOf names (OwesKnown known) → FitInEach names

-- what is owed by what is known, with its calls
pub record AreOwedCalls (known : Known) (calls : OwedCalls) : Type 0 where
  pub owed : IsPlan (systems_in known.old.defs known.new) (state_of known.units.states) known.units.lists calls.owed
  pub steady : IsTrue calls.steady ↔ IsKnownSteady known
  pub in_order : AreInOrder (found_in known.new) calls.owed.lists.starts calls.ordered
  pub duties : calls.duties ≡ calls_of calls.owed calls.ordered.units (state_of known.units.states)

-- the plan of a switch by what is known
pub record IsPlanBy (known : Known) (plan : UnitPlan) : Type 0 where
  pub from : plan.from ≡ known.old.name
  pub defs : plan.defs ≡ known.new
  pub owed : IsPlan (systems_in known.old.defs known.new) (state_of known.units.states) known.units.lists plan.owed
  pub steady : IsTrue plan.steady ↔ IsKnownSteady known
  pub in_order : AreInOrder (found_in known.new) plan.owed.lists.starts plan.ordered
  pub duties : plan.duties ≡ calls_of plan.owed plan.ordered.units (state_of known.units.states)
  pub write : (leaves : Leaves) → IsLogState leaves known.units.log → IsWriteFor leaves plan.owed.lists plan.write
