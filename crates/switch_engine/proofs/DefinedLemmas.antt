-- A system's units as they are kept define what its leaves define, and so a switch leaves one of them failed where its outcome says so.
use Rattle.std.proofs.Common.{◌≡◌, ◌↔◌, [], None, is_some, refl, sym, ap, ◌∙◌, List}
use Rattle.host_trait.specs.States.{UnitStates, state_of}
use Rattle.host_trait.specs.World.{Leaves, WorldState}
use Rattle.owed_plan.specs.declared.owed.Owed.{Owed}
use Rattle.owed_plan.specs.Systems.{Systems}
use Rattle.owed_plan.proofs.SystemLemmas.{systems_same}
use Rattle.switch_engine.specs.Final.{HasFailed, IsLeftFailed}
use Rattle.unit_stage.specs.End.{IsBrought}
use Rattle.switch_names.specs.Names.{Name}
use Rattle.unit_defs.specs.declared.unit.Unit.{Unit}
use Rattle.unit_defs.specs.Defs.{AreDefsOf, found_in}
use Rattle.unit_defs.specs.Units.{text_of}

-- the units that are kept of a system are those that its leaves define
pub defined_same : (leaves : Leaves) (system : Name) (units : List Unit) → AreDefsOf leaves system units → (unit : Name) →
    is_some (found_in units unit) ≡ is_some (text_of leaves system unit)
defined_same leaves system units are unit = ap (λ (systems : Systems). (systems.facts unit).in_new) (systems_same leaves None system [] units refl are)

-- a unit of the system has failed after a switch where the switch leaves one failed
pub left_failed : (system : Name) (owed : Owed) (order : List Name) (w v : WorldState) (units : List Unit) (states : UnitStates) → AreDefsOf w.leaves system units →
    states ≡ v.manager.states → IsBrought system owed order w v → HasFailed units states ↔ ((unit : Name) × IsLeftFailed system owed w unit)
left_failed system owed order w v units states are now final = (
  λ failed. (
    failed.0,
    record {
      failed = sym (final.states failed.0) ∙ ap (λ (s : UnitStates). state_of s failed.0) (sym now) ∙ failed.1;
      defined = sym (defined_same w.leaves system units are failed.0) ∙ failed.2;
    },
  ),
  λ left. (
    left.0,
    ap (λ (s : UnitStates). state_of s left.0) now ∙ final.states left.0 ∙ left.1.failed,
    defined_same w.leaves system units are left.0 ∙ left.1.defined,
  ),
)
