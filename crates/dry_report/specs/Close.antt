-- What a command says at its end: the lines of switch-to-configuration, NixOS manual, "What happens during a system switch?".
use Rattle.std.specs.Prelude.{◌≡◌, ℕ, ◌++◌, Bool, true, false, List, [], ◌∷◌, Option, None, Some, codes, filter, map}
use Rattle.std.specs.List.{flat_map}
use Rattle.host_trait.specs.States.{UnitStates, listed_states}
use Rattle.host_trait.specs.World.{WorldState}
use Rattle.owed_plan.specs.declared.owed.Owed.{Owed}
use Rattle.switch_engine.specs.declared.command.Command.{Command}
use Rattle.switch_engine.specs.Final.{IsLeftFailed, is_failed_of}
use Rattle.switch_engine.specs.Commands.{row, switched_to}
use Rattle.switch_names.specs.Names.{IsListOf, Name}
use Rattle.unit_defs.specs.declared.unit.Unit.{Unit}
use Rattle.unit_stage.specs.Plan.{IsOwedBy}
use Rattle.dry_report.specs.Report.{line}

-- the last line
abbrev pub closing : List ℕ
closing = codes "done" ++ 10 ∷ []

-- a line for each unit that has failed, and the last line
abbrev pub close_of : List Name → List ℕ
close_of failed = flat_map (line (codes "failed")) failed ++ closing

-- the units that have failed and that a system defines, in byte order
abbrev pub failed_in : List Unit → UnitStates → List Name
failed_in defs states = map (λ one. one.unit) (filter (is_failed_of defs) (listed_states states))

-- the closing text of a switch of the units to a system, from a world
pub record IsUnitClosing (start_up : Bool) (system : Name) (w : WorldState) (text : List ℕ) : Type 0 where
  pub owed : Owed
  pub is_owed : IsOwedBy start_up system w owed
  pub failed : List Name
  pub are_failed : IsListOf failed (IsLeftFailed system owed w)
  pub is_text : text ≡ close_of failed

-- the closing text after a switch of the units to a system, or without one
abbrev pub IsClosingTo : Bool → Option Name → WorldState → List ℕ → Type 0
IsClosingTo start_up None w text = text ≡ closing
IsClosingTo start_up (Some system) w text = IsUnitClosing start_up system w text

-- the same where something is changed; else there is no closing text
abbrev pub IsClosingBy : Bool → Bool → Option Name → WorldState → List ℕ → Type 0
IsClosingBy start_up true system w text = IsClosingTo start_up system w text
IsClosingBy start_up false system w text = text ≡ []

-- the closing text of a command, from a world
abbrev pub IsClosing : Command → WorldState → List ℕ → Type 0
IsClosing command w text = IsClosingBy (row command w.leaves).start_up (row command w.leaves).changes (switched_to command w.leaves) w text
