-- The part of a switch that is about the units: NixOS manual, "Unit handling".
use Rattle.std.specs.Prelude.{◌≡◌, ◌↔◌, true, Option, None, Some, if◌then◌else◌, Bool}
use Rattle.host_trait.specs.declared.leaf.LeafKind.{LeafKind}
use Rattle.host_trait.specs.declared.unit_state.State.{State}
use Rattle.host_trait.specs.World.{Leaves, WorldState, is_path}
use Rattle.owed_log.specs.Lengths.{AreOwedShort}
use Rattle.switch_names.specs.Names.{Name}
use Rattle.switch_parts.specs.Part.{Part}
use Rattle.tree_put.specs.WrittenPlace.{in_the_way}
use Rattle.unit_stage.specs.End.{AreEndStates}
use Rattle.unit_stage.specs.Owes.{HasGoneOn, IsSteadyWorld}
use Rattle.unit_stage.specs.Owned.{owns_units, reads_units, unit_places}
use Rattle.unit_stage.specs.System.{current_place, system_leaf, unit_refusal}

-- nothing is in the way of the units' places, and the units of the system can be read
pub record AreUnitsFree (system : Name) (leaves : Leaves) : Type 0 where
  pub way : in_the_way unit_places leaves ≡ None
  pub refusal : unit_refusal leaves system ≡ None

-- A switch of the units that began in a world is underway in another: it has gone on to there, and leaves from there what it
-- leaves from the first world. It isn't refused, what is read of what is owed is short enough where it was, and the world is
-- steady.
pub record AreUnitsUnderway (start_up : Bool) (system : Name) (first w : WorldState) : Type 0 where
  pub same_states : (states : Name → State) → AreEndStates start_up system w states ↔ AreEndStates start_up system first states
  pub same_bad : w.manager.bad ≡ first.manager.bad
  pub gone_on : HasGoneOn start_up (Some system) first w
  pub free : AreUnitsFree system w.leaves
  pub short : AreOwedShort first.leaves → AreOwedShort w.leaves
  pub steady : IsSteadyWorld start_up system w

-- each moment of a switch of the units keeps this: nothing gets in the way, and from a steady world the switch is underway
pub record AreUnitsKept (start_up : Bool) (system : Name) (w m : WorldState) : Type 0 where
  pub free : AreUnitsFree system w.leaves → AreUnitsFree system m.leaves
  pub underway : AreUnitsFree system w.leaves → IsSteadyWorld start_up system w → AreUnitsUnderway start_up system w m

-- the link names the system, and neither the log nor a list is left
abbrev pub units_end : Name → Leaves → Name → Option LeafKind
units_end system leaves q = if is_path q current_place then Some (system_leaf system) else None

-- the part that records what is owed, stops units, brings the system into use, and reloads, restarts and starts units
abbrev pub units_part : Bool → Name → Part
units_part start_up system = record {
  owns = owns_units;
  reads = reads_units;
  calls = true;
  places = λ leaves. unit_places;
  refusal = λ leaves. unit_refusal leaves system;
  long = λ leaves. None;
  end = units_end system;
  Keeps = AreUnitsKept start_up system;
}
