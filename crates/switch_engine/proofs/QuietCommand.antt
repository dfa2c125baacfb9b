-- A planned command writes quietly, whichever of its parts it has.
use Rattle.std.proofs.Common.{◌≡◌, ◌&&◌, Bool, true, false, Option, None, Some, List, refl, sym, subst, ◌∙◌, inl, inr}
use Rattle.std.proofs.lemmas.Bool.{cases_Bool, or_from}
use Rattle.std.specs.FinMap.{get}
use Rattle.activation_stage.specs.Quiet.{activation_first}
use Rattle.boot_entries.specs.BootDefault.{owns_default}
use Rattle.generations.specs.declared.gens.Gens.{Gens}
use Rattle.generations.specs.declared.moving.Move.{Move}
use Rattle.generations.specs.GoalPart.{owns_goal}
use Rattle.host_trait.specs.World.{WorldState, seen}
use Rattle.owed_plan.specs.declared.owed.Owed.{Owed}
use Rattle.switch_engine.specs.declared.command.Command.{Command}
use Rattle.switch_engine.specs.Carried.{cleared_by}
use Rattle.switch_engine.specs.Commands.{if_so, new_system, row}
use Rattle.switch_engine.specs.Moments.{IsSwitched, record_world, default_world}
use Rattle.switch_engine.specs.Quiet.{IsQuietCommand, IsQuietSwitch, command_first, first_by, is_not_quiet, is_quiet}
use Rattle.switch_engine.specs.Rows.{default_if, final, switched_leaf}
use Rattle.switch_engine.proofs.CarryLemmas.{IsCarriedFrom, activation_same, alone_set, clear_last, clear_only, ends}
use Rattle.switch_engine.proofs.MovedQuiet.{default_not_quiet, goal_not_quiet}
use Rattle.switch_engine.proofs.QuietLemmas.{not_owned, quiet_between, quiet_none, quiet_not_stage}
use Rattle.switch_engine.proofs.QuietWay.{first_kept}
use Rattle.switch_engine.proofs.SwitchedIf.{IsSwitchMomentIf, IsSwitchedIf}
use Rattle.switch_names.specs.Names.{Name}
use Rattle.tree_put.specs.Written.{WritesOnly}
use Rattle.tree_put.proofs.WrittenLemmas.{writes_none, writes_then}

-- what is about the profile and the boot menu owns no quiet place
moved_not_own : (moves : Option Move) (system : Name) (gens : Gens) (q : Name) → is_quiet q ≡ true → (default_if moves system gens).owns q ≡ false
moved_not_own None system gens q quiet = refl
moved_not_own (Some move) system gens q quiet = or_from _ _ (not_owned owns_default default_not_quiet q quiet) (not_owned owns_goal goal_not_quiet q quiet)

module _ (command : Command) (owed : Owed) (order : List Name) (w : WorldState) (carried : IsCarriedFrom command owed order w) where
  abbrev switches : Bool
  switches = (row command w.leaves).switches

  abbrev moves : Option Move
  moves = (row command w.leaves).moves

  abbrev system : Name
  system = new_system command w.leaves

  module _ (r : WorldState) (is_r : seen r ≡ record_world moves w) (u : WorldState) (is_u : seen u ≡ default_world moves system r) where
    -- what was done before has changed no quiet place
    kept_before : (q : Name) → is_quiet q ≡ true → get u.leaves q ≡ get w.leaves q
    kept_before q quiet = (alone_set command owed order w carried r is_r u is_u).only.leaves q (moved_not_own moves system _ q quiet) (quiet_not_stage q quiet)

    module _
        (v : WorldState) (end : IsSwitchedIf switches system owed order u v) (moment : IsSwitchMomentIf switches system owed order u v) (x : WorldState) (is_x : x ≡ cleared_by moves v) where
      kept_after : (q : Name) → is_quiet q ≡ true → get x.leaves q ≡ get v.leaves q
      kept_after q quiet = (clear_only moves v x (clear_last moves v x is_x)).leaves q (not_owned owns_goal goal_not_quiet q quiet) (quiet_not_stage q quiet)

      module _ (on : switches ≡ true) where
        switched : IsSwitched system owed order u v
        switched = subst (λ b. IsSwitchedIf b system owed order u v) on end

        same_first : (q : Name) → is_quiet q ≡ true → activation_first system u.leaves q ≡ command_first command w.leaves q
        same_first q quiet =
            first_kept system carried.named w u (activation_same command owed order w carried r is_r u is_u) q
            ∙ sym (λ i. first_by (if_so (carried.on i && on i) system) w.leaves q)

        same_end : (q : Name) → is_quiet q ≡ true → switched_leaf system u.leaves q ≡ final command w.leaves q
        same_end q quiet =
            sym (switched.leaves q (quiet_not_stage q quiet)) ∙ sym (kept_after q quiet)
            ∙ (ends command owed order w carried r is_r u is_u v end moment x is_x).final.leaves q (quiet_not_stage q quiet)

      pub carried_quietly : WritesOnly is_not_quiet w u → (switches ≡ true → IsQuietSwitch system u v) → WritesOnly is_not_quiet v x → IsQuietCommand command w x
      carried_quietly before quiet after = elim (cases_Bool switches) [
        | inl on ↦ quiet_between (activation_first system) (command_first command) (final command) (switched_leaf system) w u v x before (quiet on) after (same_first on) (same_end on) kept_before
        | inr off ↦
            let same : v ≡ u = subst (λ b. IsSwitchedIf b system owed order u v) off end in
            quiet_none (command_first command) (final command) w x (writes_then is_not_quiet w v x (writes_then is_not_quiet w u v before (writes_none is_not_quiet u v same)) after)
      ]
