-- What a command owes each unit, and a run of it that is underway: NixOS manual, "Unit handling".
use Rattle.std.specs.Prelude.{◌≡◌, ◌↔◌, Bool, Option, None, IfSome}
use Rattle.host_trait.specs.World.{WorldState}
use Rattle.leaf_limits.specs.declared.too_long.TooLong.{TooLong}
use Rattle.leaf_limits.specs.Limits.{first_long}
use Rattle.switch_engine.specs.declared.command.Command.{Command}
use Rattle.switch_engine.specs.declared.row.Row.{Row}
use Rattle.switch_engine.specs.Commands.{row, switched_by, switched_to}
use Rattle.switch_engine.specs.Final.{IsFinalOf}
use Rattle.switch_engine.specs.Presence.{where_some}
use Rattle.switch_engine.specs.Rows.{parts_in, refusal, refusal_by, refusal_with}
use Rattle.switch_names.specs.Names.{Name}
use Rattle.switch_parts.specs.declared.refusal.Refusal.{Refusal}
use Rattle.owed_plan.specs.Lists.{Debt}
use Rattle.unit_stage.specs.Owes.{HasEntered, HasGoneOn, IsPaidTo, IsSteadyWorld, OwesTo}
use Rattle.unit_stage.specs.Plan.{IsLongLog}

-- a command owes a unit of a world this
abbrev pub OwesDebt : Command → WorldState → Debt → Name → Type 0
OwesDebt command w debt unit = OwesTo (row command w.leaves).start_up (switched_to command w.leaves) w debt unit

-- a steady world, as far as a switch of the units looks at it
abbrev pub IsSteadyTo : Bool → Option Name → WorldState → Type 0
IsSteadyTo start_up to w = IfSome to (λ system. IsSteadyWorld start_up system w)

-- such a world for a command
abbrev pub IsSteadyFor : Command → WorldState → Type 0
IsSteadyFor command w = IsSteadyTo (row command w.leaves).start_up (switched_to command w.leaves) w

-- the log that a switch of the units to a system, where there is one, records what it owes in, where that would be too long
abbrev pub IsLongLogTo : Bool → Option Name → WorldState → Option TooLong → Type 0
IsLongLogTo start_up to w long = where_some (long ≡ None) (λ system. IsLongLog start_up system w long) to

-- the first in byte order of that log and of what the parts of a row put, where one would be too long
abbrev pub IsLongBy : Row → WorldState → Option TooLong → Type 0
IsLongBy its w long =
    (log : Option TooLong) × IsLongLogTo its.start_up (switched_by its) w log × (long ≡ first_long log ((parts_in its.start_up its.switches its.moves its.system w.leaves).long w.leaves))

-- why a world refuses a row whose system is there, or nothing
abbrev pub RefusesBy : Row → WorldState → Option Refusal → Type 0
RefusesBy its w why = (long : Option TooLong) × IsLongLogTo its.start_up (switched_by its) w long × (why ≡ refusal_by long its.start_up its.switches its.moves its.system w.leaves)

-- why a world refuses a command, or nothing
abbrev pub Refuses : Command → WorldState → Option Refusal → Type 0
Refuses command w why = (long : Option TooLong) × IsLongLogTo (row command w.leaves).start_up (switched_to command w.leaves) w long × (why ≡ refusal_with long command w.leaves)

-- A run of a command that began in a world is underway in another: the command has there the row that it had, leaves from
-- there what it leaves from the first world, and isn't refused. Its switch of the units has gone on to there, and the world is
-- steady.
pub record IsUnderway (command : Command) (first w : WorldState) : Type 0 where
  pub same_row : row command w.leaves ≡ row command first.leaves
  pub same_end : (v : WorldState) → IsFinalOf command w v ↔ IsFinalOf command first v
  pub gone_on : HasGoneOn (row command first.leaves).start_up (switched_to command first.leaves) first w
  pub not_refused : refusal command w.leaves ≡ None
  pub steady : IsSteadyFor command w

-- A run of a command that began in a world is over in another: that shows what the command leaves, each duty is paid,
-- and no unit was touched that was owed nothing.
pub record IsOver (command : Command) (first w : WorldState) : Type 0 where
  pub final : IsFinalOf command first w
  pub since : HasEntered (row command first.leaves).start_up (switched_to command first.leaves) first w
  pub paid : (debt : Debt) (unit : Name) → OwesDebt command first debt unit → IsPaidTo (switched_to command first.leaves) debt unit since.entered
