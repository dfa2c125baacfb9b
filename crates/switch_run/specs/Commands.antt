-- The commands that a run takes: the words of switch-to-configuration, NixOS manual, "Upgrading NixOS".
use Rattle.std.specs.Prelude.{ℕ, List, [], ◌∷◌, codes, nat_eq, Option, None, Some, option_and_then, if◌then◌else◌}
use Rattle.std.specs.Cmp.Lexicographic.{pointwise}
use Rattle.switch_names.specs.SystemName.{named_system}
use Rattle.switch_engine.specs.declared.command.Command.{Command}
use Rattle.switch_engine.specs.declared.command.Command.TheVariants.{Switch, Test, Boot, DryActivate, Rollback, StartUp}

-- the command that a word gives for a system, or none
abbrev pub command_for : List ℕ → List ℕ → Option Command
command_for verb system =
    if pointwise nat_eq verb (codes "switch") then Some (Switch system)
    else if pointwise nat_eq verb (codes "test") then Some (Test system)
    else if pointwise nat_eq verb (codes "boot") then Some (Boot system)
    else if pointwise nat_eq verb (codes "dry-activate") then Some (DryActivate system)
    else None

-- the command that a word gives alone, or none
abbrev pub command_alone : List ℕ → Option Command
command_alone verb =
    if pointwise nat_eq verb (codes "rollback") then Some Rollback
    else if pointwise nat_eq verb (codes "start-up") then Some StartUp
    else None

-- the command that words give, or none
abbrev pub command_of : List (List ℕ) → Option Command
command_of [] = None
command_of (verb ∷ []) = command_alone verb
command_of (verb ∷ word ∷ []) = option_and_then (command_for verb) (named_system word)
command_of (verb ∷ word ∷ more ∷ rest) = None
