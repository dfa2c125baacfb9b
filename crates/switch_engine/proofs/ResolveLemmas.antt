-- What a rollback or a start-up does, by the generations that are read.
use Rattle.std.proofs.Common.{◌≡◌, ℕ, [], true, false, Option, None, Some, unwrap_or, sym, ap, ◌∙◌, inl, inr}
use Rattle.std.proofs.lemmas.Option.{same_Some}
use Rattle.std.specs.Option.{option_and_then}
use Rattle.generations.specs.declared.gens.Gens.{Gens}
use Rattle.generations.specs.declared.moving.Move.TheVariants.{Point}
use Rattle.generations.specs.Boot.{boot_system}
use Rattle.generations.specs.Gens.{IsGensOf, listed_at}
use Rattle.generations.specs.Goal.{goal}
use Rattle.generations.specs.Places.{generation_at}
use Rattle.generations.proofs.GoalLemmas.{goal_names}
use Rattle.host_trait.specs.World.{Leaves}
use Rattle.switch_engine.specs.declared.command.Command.{Command}
use Rattle.switch_engine.specs.declared.command.Command.TheVariants.{Rollback, StartUp}
use Rattle.switch_engine.specs.Commands.{named_by, row}
use Rattle.switch_engine.specs.Resolved.{IsRowOf}
use Rattle.switch_engine.proofs.GoalKeptLemmas.{back, names_it}
use Rattle.switch_names.specs.Names.{Name}

-- the system that is found for the goal is the one that its generation names
module _ (leaves : Leaves) (gens : Gens) (n : ℕ) (are : IsGensOf leaves gens) (is : goal leaves ≡ Some n) where
  named_back : option_and_then (λ (target : Option Name). target) (listed_at gens.list n) ≡ Some (named_by (generation_at leaves n))
  named_back = ap (option_and_then (λ (target : Option Name). target)) (are.exact n ∙ names_it (generation_at leaves n) (goal_names leaves n is))

  pub found_back : (found : Option Name) → found ≡ option_and_then (λ (target : Option Name). target) (listed_at gens.list n) → found ≡ Some (named_by (generation_at leaves n))
  found_back found is_found = is_found ∙ named_back

  pub found_row : (system : Name) → Some system ≡ Some (named_by (generation_at leaves n)) → record { system = system; moves = Some (Point n); switches = true; start_up = false; changes = true } ≡ row Rollback leaves
  found_row system same =
      ap (λ s. record { system = s; moves = Some (Point n); switches = true; start_up = false; changes = true }) (same_Some system (named_by (generation_at leaves n)) same)
      ∙ sym (ap (λ o. back o leaves) is)

-- ---- a start-up

-- what a machine boots into is the system of its row
pub start_row : (leaves : Leaves) (system : Name) → Some system ≡ boot_system leaves → record { system = system; moves = None; switches = true; start_up = true; changes = true } ≡ row StartUp leaves
start_row leaves system is = ap (λ o. record { system = unwrap_or o []; moves = None; switches = true; start_up = true; changes = true }) is

-- ---- a command that goes by the generations

-- but for a start-up it is a rollback
pub not_start : (command : Command) → IsRowOf command None → (command ≡ StartUp → ⊥) → command ≡ Rollback
not_start command (inl back) other = back
not_start command (inr start) other = absurd (other start)
