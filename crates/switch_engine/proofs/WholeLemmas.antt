-- Once a command that moves the profile has come to its end, each entry of the boot menu is that of a generation that stands.
use Rattle.std.proofs.Common.{◌≡◌, ◌≢◌, ◌||◌, Bool, IsSome, true, false, cond, Option, None, Some, refl, sym, ap, subst, ◌∙◌, inr}
use Rattle.std.proofs.lemmas.Bool.{both_ways, or_left, or_right}
use Rattle.std.specs.FinMap.{get}
use Rattle.activation_stage.specs.Owners.{owners_after}
use Rattle.boot_entries.specs.BootDefault.{boot_default_in, menu_after}
use Rattle.boot_entries.specs.DefaultLaws.{IsSameMenu, IsSameProfile}
use Rattle.boot_entries.specs.Menu.{IsMenuWhole}
use Rattle.boot_entries.specs.Places.{entry_path, owns_boot}
use Rattle.boot_entries.specs.Steps.{with_menu}
use Rattle.boot_entries.proofs.EndLemmas.{boot_owned}
use Rattle.generations.specs.declared.moving.Move.{Move}
use Rattle.generations.specs.GoalPart.{owns_goal}
use Rattle.generations.specs.Move.{IsMoveTo, gens_moved, move_world}
use Rattle.generations.specs.Places.{link_path}
use Rattle.generations.specs.ProfilePart.{owns_profile}
use Rattle.generations.proofs.ProfileApart.{link_owned, owned_other, stage_not_owned}
use Rattle.generations.proofs.SetLaws.{generation_of}
use Rattle.host_trait.specs.World.{Leaves, WorldState, stage}
use Rattle.switch_engine.specs.declared.command.Command.{Command}
use Rattle.switch_engine.specs.declared.row.Row.{Row}
use Rattle.switch_engine.specs.Commands.{if_moved, new_system, row, set_by, set_to}
use Rattle.switch_engine.specs.Final.{IsFinalOf}
use Rattle.switch_engine.specs.Rows.{goal_by, part_if, part_of, refusal, switch_in}
use Rattle.boot_entries.proofs.DefaultLemmas.{default_end_law}
use Rattle.boot_entries.proofs.MenuLemmas.{menu_end_law}
use Rattle.switch_engine.proofs.StepLeaves.{not_own}
use Rattle.switch_engine.proofs.MovedPart.{default_in}
use Rattle.switch_engine.proofs.GoalKeptLemmas.{IsMoveToBy, moves_to}
use Rattle.switch_engine.proofs.MenuApart.{menu_not_stage}
use Rattle.switch_engine.proofs.UnderwayLemmas.{free_command}
use Rattle.switch_names.specs.Names.{Name}
use Rattle.switch_names.specs.SystemName.{IsSystemPath}
use Rattle.switch_parts.specs.Part.{IsAtEnd, IsFree, Part, both, final_leaf}
use Rattle.switch_parts.proofs.Parts.{first_free, second_free}

-- a boot menu is whole where neither it nor the profile has changed
whole_still : (first now later : Leaves) → IsMenuWhole first now → IsSameMenu now later → IsSameProfile now later → IsMenuWhole first later
whole_still first now later whole menu profile n leaf small stands =
    let entry = whole n leaf small (sym (menu (entry_path n) (boot_owned (entry_path n) (inr (n, small, refl)))) ∙ stands) in
    record { system = entry.system; stands = generation_of later now n (profile (link_path n) (link_owned n)) ∙ entry.stands; text = entry.text }

-- what one of two parts doesn't own is at the end of the other
beside_first : (p q : Part) (leaves : Leaves) (at : Name) → p.owns at ≡ false → final_leaf (both p q) leaves at ≡ final_leaf q leaves at
beside_first p q leaves at none = ap (λ b. cond (b || q.owns at) (cond b (p.end leaves at) (q.end leaves at)) (get leaves at)) none

module _ (command : Command) (w : WorldState) (named : IsSystemPath (new_system command w.leaves)) (none : refusal command w.leaves ≡ None)
    (on : (row command w.leaves).changes ≡ true) (move : Move) (moved : (row command w.leaves).moves ≡ Some move) where
  abbrev system : Name
  system = new_system command w.leaves

  abbrev first : Part
  first = part_if (row command w.leaves).switches (switch_in (row command w.leaves).start_up system w.leaves)

  abbrev default : Part
  default = boot_default_in move system w.leaves

  abbrev second : Part
  second = default_in (Some move) system w.leaves

  -- a world in which the system is the boot default
  abbrev end : WorldState
  end = with_menu (menu_after move system w.leaves) (move_world move system w)

  free : IsFree default w.leaves
  free = first_free default (goal_by move) w.leaves
      (subst (λ moves. IsFree (default_in moves system w.leaves) w.leaves) moved (second_free first (default_in (row command w.leaves).moves system w.leaves) w.leaves (free_command command w.leaves none).parts))

  to : IsMoveTo move system w.leaves
  to = subst (λ moves. IsMoveToBy moves system w.leaves) moved (moves_to command w.leaves)

  at_end : IsAtEnd default w end
  at_end = (default_end_law move system w end named free refl).1

  module _ (v : WorldState) (final : IsFinalOf command w v) where
    -- what a boot default owns stands as there
    same_default : (q : Name) → owns_profile q || owns_boot q ≡ true → q ≢ stage → get v.leaves q ≡ get end.leaves q
    same_default q own ne =
        final.leaves q ne
        ∙ ap (λ b. cond b (final_leaf (part_of command w.leaves) w.leaves q) (get w.leaves q)) on
        ∙ ap (λ moves. final_leaf (both first (default_in moves system w.leaves)) w.leaves q) moved
        ∙ beside_first first second w.leaves q
        (not_own (row command w.leaves).start_up (row command w.leaves).switches system named (owners_after system w.leaves) (gens_moved move system w.leaves) q (or_left (owns_profile q || owns_boot q) (owns_goal q) own))
        ∙ ap (λ b. cond (b || owns_goal q) (cond b (default.end w.leaves q) None) (get w.leaves q)) own
        ∙ sym (at_end q own)

    pub whole : IsMenuWhole w.leaves v.leaves
    whole = whole_still w.leaves end.leaves v.leaves (menu_end_law move system w end named to free refl)
        (λ q own. same_default q (or_right (owns_profile q) (owns_boot q) own) (menu_not_stage q own))
        (λ q own. same_default q (or_left (owns_profile q) (owns_boot q) own) (owned_other q stage own stage_not_owned))

-- a command moves the profile where it names a system to which it does
record IsMoved (its : Row) : Type 0 where
  on : its.changes ≡ true
  move : Move
  moved : its.moves ≡ Some move

moved_to : (its : Row) → IsSome (set_by its) → IsMoved its
moved_to its some = by its.changes its.moves refl refl some
  where
    by : (changes : Bool) (moves : Option Move) → its.changes ≡ changes → its.moves ≡ moves → IsSome (if_moved (cond changes moves None) its.system) → IsMoved its
    by true (Some move) on is some = record { on = on; move = move; moved = is }
    by true None on is some = absurd (both_ways false refl some)
    by false moves on is some = absurd (both_ways false refl some)

pub whole_law : (command : Command) (w v : WorldState) → IsSystemPath (new_system command w.leaves) → refusal command w.leaves ≡ None → IsSome (set_to command w.leaves) → IsFinalOf command w v → IsMenuWhole w.leaves v.leaves
whole_law command w v named none some final =
    let by = moved_to (row command w.leaves) some in whole command w named none by.on by.move by.moved v final
