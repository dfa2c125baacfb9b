-- A command that is run again until it comes to its end.
use Rattle.std.specs.Prelude.{◌≡◌, ◌≤◌, ◌+◌, ◌-◌, ◌^◌, ℕ, min, List, length, take, None, Some}
use Rattle.host_trait.specs.Host.{HostState, Leads}
use Rattle.host_trait.specs.World.{WorldState}
use Rattle.rehearse.specs.declared.cut.Cut.{Cut}
use Rattle.rehearse.specs.declared.summary.End.{End}
use Rattle.rehearse.specs.declared.summary.End.TheVariants.{Refused}
use Rattle.rehearse.specs.declared.summary.Summary.{Summary}
use Rattle.rehearse.specs.declared.trouble.Trouble.{Trouble}
use Rattle.rehearse.specs.Ends.{HasEnded, IsVerdict}
use Rattle.rehearse.specs.Troubles.{AreCuts, allowed, allowed_by_all}
use Rattle.switch_engine.specs.declared.command.Command.{Command}
use Rattle.switch_engine.specs.Owing.{IsOver, IsSteadyFor, Refuses}
use Rattle.switch_engine.specs.Rows.{refusal}
use Rattle.switch_parts.specs.declared.refusal.Refusal.{Refusal}

-- A command has ended that first began in a world. From one that isn't refused and is steady it is over, and says what a run
-- says that isn't cut; from one that is refused it is refused for that; and where it was refused, the world that is left is.
pub record IsThrough (command : Command) (how : End) (first v : WorldState) : Type 0 where
  pub over : refusal command first.leaves ≡ None → IsSteadyFor command first → IsOver command first v
  pub verdict : refusal command first.leaves ≡ None → IsSteadyFor command first → IsVerdict command how first
  pub refused : (why : Refusal) → Refuses command first (Some why) → how ≡ Refused why
  pub left_refused : (why : Refusal) → how ≡ Refused why → Refuses command v (Some why)

-- A command was run until it ended, and so many troubles were there for its runs: a call has failed in each run but the last,
-- and where there was one run alone, it ended so from the world where it began, steady or not.
pub record IsRunToEnd (command : Command) (old new : HostState) (troubles : ℕ) (summary : Summary) : Type 0 where
  pub some : 1 ≤ summary.runs
  pub most : summary.runs ≤ troubles + 1
  pub led : Leads old new (IsThrough command summary.end)
  pub at_once : summary.runs ≡ 1 → Leads old new (HasEnded command summary.end)
  pub faults : min (old.faults + (summary.runs - 1)) (2 ^ 64 - 1) ≤ new.faults

-- a command was run until it ended, each run under one of these troubles as long as there were any
pub record IsRunThroughAll (command : Command) (old new : HostState) (troubles : List Trouble) (summary : Summary) : Type 0 where
  pub ended : IsRunToEnd command old new (length troubles) summary
  pub clock : summary.runs ≤ length troubles → AreCuts troubles summary.runs → new.clock ≤ old.clock + allowed_by_all (take summary.runs troubles)

-- a command was run until it ended, each run under one of these cuts as long as there were any
pub record IsRunThrough (command : Command) (old new : HostState) (cuts : List Cut) (summary : Summary) : Type 0 where
  pub ended : IsRunToEnd command old new (length cuts) summary
  pub clock : summary.runs ≤ length cuts → new.clock ≤ old.clock + allowed (take summary.runs cuts)

-- each of the first so many runs met its trouble: a call failed in it, and a cut ended it
pub record IsBounded (old new : HostState) (troubles : List Trouble) (runs : ℕ) : Type 0 where
  pub faults : min (old.faults + runs) (2 ^ 64 - 1) ≤ new.faults
  pub clock : AreCuts troubles runs → new.clock ≤ old.clock + allowed_by_all (take runs troubles)
