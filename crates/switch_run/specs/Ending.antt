-- How a run ends.
use Rattle.std.specs.Prelude.{◌≡◌, ◌↔◌, ◌≤◌, [], Bool, IsTrue, IsErrOf, Option, None, Some, Result, Ok, Err}
use Rattle.host_trait.specs.declared.tree.HostFault.TheVariants.{Device, Memory}
use Rattle.host_trait.specs.Host.{HasCauseOf, HostState, Leads, Passes, Rose, Told}
use Rattle.host_trait.specs.Sink.{Puts, SinkState}
use Rattle.host_trait.specs.World.{WorldState}
use Rattle.switch_engine.specs.declared.command.Command.{Command}
use Rattle.switch_engine.specs.declared.plan.Plan.{Plan}
use Rattle.switch_engine.specs.Final.{IsEndOf, LeavesFailed}
use Rattle.switch_engine.specs.Owing.{Refuses}
use Rattle.switch_engine.specs.Plan.{IsPlanOf}
use Rattle.switch_engine.specs.Quiet.{IsQuietCommand}
use Rattle.switch_parts.specs.declared.refusal.Refusal.{Refusal}
use Rattle.dry_report.specs.Report.{IsReport}
use Rattle.switch_run.specs.declared.run_fault.RunFault.{RunFault}
use Rattle.switch_run.specs.declared.run_fault.RunFault.TheVariants.{Usage, Refused, Host, Sink}
use Rattle.switch_run.specs.Moments.{IsMomentFor}
use Rattle.switch_run.specs.Output.{IsBrokenOff, IsFailedOutput, IsIdle, IsInReport, IsWhole}

-- a command has come to its end, has written no leaf that stood, and says whether it left a unit failed
pub record IsDone (command : Command) (host after : HostState) (sink put : SinkState) (failed : Bool) : Type 0 where
  pub not_refused : Told host (λ w. Refuses command w None)
  pub led : Leads host after (IsEndOf command)
  pub quiet : Leads host after (IsQuietCommand command)
  pub verdict : Told host (λ w. IsTrue failed ↔ LeavesFailed command w)
  pub output : Told host (λ w. Puts sink put (IsWhole command w))

-- a command is refused for this reason
pub record IsRefused (command : Command) (host after : HostState) (sink put : SinkState) (why : Refusal) : Type 0 where
  pub refused : Told host (λ w. Refuses command w (Some why))
  pub idle : IsIdle host after sink put

-- the output failed under a command
pub record IsSinkFailed (command : Command) (host after : HostState) (sink put : SinkState) : Type 0 where
  pub not_refused : Told host (λ w. Refuses command w None)
  pub output : IsFailedOutput command host after sink put

-- what has come of a run whose words give this command or none, by how it ended
abbrev pub HasCome : Option Command → HostState → HostState → SinkState → SinkState → Result Bool RunFault → Type 0
HasCome (Some command) host after sink put (Ok failed) = IsDone command host after sink put failed
HasCome (Some command) host after sink put (Err (Refused why)) = IsRefused command host after sink put why
HasCome (Some command) host after sink put (Err (Host fault)) = IsBrokenOff command host after sink put
HasCome (Some command) host after sink put (Err Sink) = IsSinkFailed command host after sink put
HasCome (Some command) host after sink put (Err Usage) = ⊥
HasCome None host after sink put (Err Usage) = IsIdle host after sink put
HasCome None host after sink put (Err (Host Memory)) = IsIdle host after sink put
HasCome None host after sink put ending = ⊥

-- a fault of the output comes only where the sink's count of faults rose
pub record IsSinkCaused (old new : SinkState) (fault : Type 0) : Type 0 where
  pub later : old.faults ≤ new.faults
  pub rose : fault → Rose old.faults new.faults

-- how a run ends whose words give this command or none
pub record IsEnding (given : Option Command) (host after : HostState) (sink put : SinkState) (ending : Result Bool RunFault) : Type 0 where
  pub come : HasCome given host after sink put ending
  pub moments : Passes host after (IsMomentFor given)
  pub cause : HasCauseOf host after (IsErrOf ending (Host Device))
  pub sink_cause : IsSinkCaused sink put (IsErrOf ending Sink)

-- what has come of the report of a plan, by how the put of it ended
abbrev pub HasReported : Plan → SinkState → SinkState → Result (Unit {0}) RunFault → Type 0
HasReported plan sink put (Ok done) = (w : WorldState) → IsPlanOf w plan → Puts sink put (IsReport plan.command w)
HasReported plan sink put (Err Sink) = (w : WorldState) → IsPlanOf w plan → Puts sink put (IsInReport plan.command w)
HasReported plan sink put (Err (Host Memory)) = Puts sink put (λ more. more ≡ [])
HasReported plan sink put ended = ⊥
