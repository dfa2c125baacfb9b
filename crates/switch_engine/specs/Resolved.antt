-- What a command does, resolved in the world where it begins: NixOS manual, "Changing the configuration".
use Rattle.std.specs.Prelude.{◌≡◌, ◌⊎◌, ℕ, true, false, Option, None, Some, IfSome}
use Rattle.generations.specs.declared.moving.Move.{Move}
use Rattle.generations.specs.Gens.{IsGensOf}
use Rattle.generations.specs.Goal.{goal_place}
use Rattle.host_trait.specs.World.{Leaves, content_of}
use Rattle.leaf_limits.specs.Limits.{content_past}
use Rattle.switch_engine.specs.declared.command.Command.{Command}
use Rattle.switch_engine.specs.declared.command.Command.TheVariants.{Rollback, StartUp}
use Rattle.switch_engine.specs.declared.row.Resolved.{Resolved}
use Rattle.switch_engine.specs.declared.row.Row.{Row}
use Rattle.switch_engine.specs.Commands.{is_back, lacks_system, missing, row}
use Rattle.switch_parts.specs.declared.refusal.Refusal.{Refusal}

-- the row of a command that has the same wherever it begins; that of a rollback or a start-up hangs on the generations
abbrev pub IsRowOf : Command → Option Row → Type 0
IsRowOf command None = (command ≡ Rollback) ⊎ (command ≡ StartUp)
IsRowOf command (Some its) = (leaves : Leaves) → (its ≡ row command leaves) × (lacks_system command leaves ≡ false)

-- how many bytes the goal of a rollback has, where the profile goes back and it has too many
abbrev pub IsGoalPast : Option Move → Leaves → Option ℕ → Type 0
IsGoalPast moves leaves past = is_back moves ≡ true → past ≡ content_past (content_of leaves goal_place)

-- the row of a command in a world where it has a system, the generations that stand, where they were read, and the length of the goal
-- of a rollback, where that is too long
pub record IsResolved (command : Command) (leaves : Leaves) (its : Resolved) : Type 0 where
  pub row : its.row ≡ row command leaves
  pub has_one : lacks_system command leaves ≡ false
  pub gens : IfSome its.gens (IsGensOf leaves)
  pub past : IsGoalPast its.row.moves leaves its.past

-- the generations give a command no system, and this is why it is refused
abbrev pub Lacks : Command → Leaves → Refusal → Type 0
Lacks command leaves why = (lacks_system command leaves ≡ true) × (why ≡ missing command)
