-- What a switch to a system does to the units: NixOS manual, "What happens during a system switch?".
use Rattle.std.specs.Prelude.{◌≡◌, ℕ, Bool, List, [], Option, None, true}
use Rattle.host_trait.specs.States.{state_of}
use Rattle.host_trait.specs.World.{WorldState}
use Rattle.leaf_limits.specs.declared.too_long.TooLong.{TooLong}
use Rattle.log_text.specs.declared.lists.Lists.{Lists}
use Rattle.log_text.specs.Lists.{no_lists}
use Rattle.owed_log.specs.declared.log_write.LogWrite.TheVariants.{Nothing}
use Rattle.owed_log.specs.Lengths.{long_log}
use Rattle.owed_log.specs.Writing.{IsWriteFor}
use Rattle.owed_plan.specs.declared.owed.Owed.{Owed}
use Rattle.owed_plan.specs.Calls.{calls_of}
use Rattle.owed_plan.specs.Owed.{IsOwed, IsPlan}
use Rattle.owed_plan.specs.Systems.{systems_at}
use Rattle.unit_defs.specs.Defs.{AreDefsOf}
use Rattle.unit_stage.specs.declared.unit_plan.UnitPlan.{UnitPlan}
use Rattle.unit_stage.specs.Order.{AreOrderedAt}
use Rattle.unit_stage.specs.System.{current_system}
use Rattle.unit_stage.specs.Waiting.{AreListsFor}

-- what a switch to a system owes the units of a world, given the lists that stand there
pub record IsOwedIn (start_up : Bool) (system : List ℕ) (w : WorldState) (lists : Lists) (owed : Owed) : Type 0 where
  pub listed : AreListsFor start_up w.leaves system lists
  pub is_owed : IsOwed (systems_at w.leaves (current_system w.leaves) system) (state_of w.manager.states) lists owed

-- what a switch to a system owes the units of a world
abbrev pub IsOwedBy : Bool → List ℕ → WorldState → Owed → Type 0
IsOwedBy start_up system w owed = (lists : Lists) × IsOwedIn start_up system w lists owed

-- the log in which a switch to a system records what it owes the units of a world, where it would be too long
abbrev pub IsLongLog : Bool → List ℕ → WorldState → Option TooLong → Type 0
IsLongLog start_up system w long = (owed : Owed) × IsOwedBy start_up system w owed × (long ≡ long_log owed.lists)

-- what a switch to a system owes the units of a world, and the changed units that it leaves
pub record IsPlannedIn (start_up : Bool) (system : List ℕ) (w : WorldState) (lists : Lists) (owed : Owed) : Type 0 where
  pub listed : AreListsFor start_up w.leaves system lists
  pub planned : IsPlan (systems_at w.leaves (current_system w.leaves) system) (state_of w.manager.states) lists owed

-- the plan of a switch to a system: the units that it defines, what is owed, what has to be written to record it, the starts in order, and the calls by which it is given
pub record IsUnitPlanOf (start_up : Bool) (system : List ℕ) (w : WorldState) (plan : UnitPlan) : Type 0 where
  pub from : plan.from ≡ current_system w.leaves
  pub defs : AreDefsOf w.leaves system plan.defs
  pub lists : Lists
  pub planned : IsPlannedIn start_up system w lists plan.owed
  pub write : IsWriteFor w.leaves plan.owed.lists plan.write
  pub in_order : AreOrderedAt w.leaves system plan.owed plan.ordered
  pub duties : plan.duties ≡ calls_of plan.owed plan.ordered.units (state_of w.manager.states)

-- the plan that does nothing to the units
abbrev pub no_units : UnitPlan
no_units = record {
  from = None;
  defs = [];
  owed = record { stops = []; lists = no_lists; left = [] };
  write = Nothing;
  steady = true;
  ordered = record { units = []; edges = []; broken = []; cycles = [] };
  duties = [];
}
