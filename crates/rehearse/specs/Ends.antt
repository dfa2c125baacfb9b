-- How a run of a command ends, and what each of its moments keeps.
use Rattle.std.specs.Prelude.{◌≡◌, false, Option, None, Some}
use Rattle.host_trait.specs.World.{Leaves, WorldState}
use Rattle.rehearse.specs.declared.summary.End.{End}
use Rattle.rehearse.specs.declared.summary.End.TheVariants.{Done, UnitsFailed, Refused}
use Rattle.switch_engine.specs.declared.command.Command.{Command}
use Rattle.switch_engine.specs.Commands.{IsQuery, goes_back, new_system}
use Rattle.switch_engine.specs.Final.{IsEndOf, LeavesFailed}
use Rattle.switch_engine.specs.Owing.{IsSteadyFor, IsUnderway, Refuses}
use Rattle.switch_names.specs.SystemName.{IsSystemPath}
use Rattle.switch_parts.specs.declared.refusal.Refusal.{Refusal}

-- a command of which a run goes on where another was cut: it changes something, and never takes the profile back
pub record IsRepeatable (command : Command) : Type 0 where
  pub changes : IsQuery command → ⊥
  pub ahead : (leaves : Leaves) → goes_back command leaves ≡ false

-- a run of a command keeps this of a world, given why the command is refused there: from a steady world a run that isn't
-- refused is underway, and one that is refused has changed nothing
abbrev pub IsHeldBy : Option Refusal → Command → WorldState → WorldState → Type 0
IsHeldBy None command w m = IsSteadyFor command w → IsUnderway command w m
IsHeldBy (Some why) command w m = m ≡ w

-- what each moment of the runs of a command has of the world where the first began
abbrev pub IsHeld : Command → WorldState → WorldState → Type 0
IsHeld command w m = (why : Option Refusal) → Refuses command w why → IsHeldBy why command w m

-- what a run that comes to its end says of the units that it leaves
abbrev pub IsVerdict : Command → End → WorldState → Type 0
IsVerdict command Done w = ¬ LeavesFailed command w
IsVerdict command UnitsFailed w = LeavesFailed command w
IsVerdict command (Refused why) w = ⊥

-- a run came to its end, and says so
pub record IsComplete (command : Command) (how : End) (w v : WorldState) : Type 0 where
  pub named : IsSystemPath (new_system command w.leaves)
  pub not_refused : Refuses command w None
  pub end : IsEndOf command w v
  pub verdict : IsVerdict command how w

-- a run ended: it came to its end, or it was refused and changed nothing
abbrev pub HasEnded : Command → End → WorldState → WorldState → Type 0
HasEnded command (Refused why) w v = Refuses command w (Some why) × (v ≡ w)
HasEnded command Done w v = IsComplete command Done w v
HasEnded command UnitsFailed w v = IsComplete command UnitsFailed w v
