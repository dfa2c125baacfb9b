-- What a run puts out, and when: the lines of switch-to-configuration, NixOS manual, "What happens during a system switch?".
use Rattle.std.specs.Prelude.{◌≡◌, ◌++◌, ℕ, List, [], None}
use Rattle.host_trait.specs.Change.{IsSame}
use Rattle.host_trait.specs.Host.{HostState, Leads, Passes, Told}
use Rattle.host_trait.specs.Sink.{IsPrefixOf, Puts, SinkState}
use Rattle.host_trait.specs.World.{WorldState}
use Rattle.switch_engine.specs.declared.command.Command.{Command}
use Rattle.switch_engine.specs.Commands.{IsQuery}
use Rattle.switch_engine.specs.Final.{IsEndOf}
use Rattle.switch_engine.specs.Owing.{Refuses}
use Rattle.dry_report.specs.Close.{IsClosing}
use Rattle.dry_report.specs.Report.{IsReport}

-- all that a command puts which comes to its end: the report and the closing text
pub record IsWhole (command : Command) (w : WorldState) (more : List ℕ) : Type 0 where
  pub report : List ℕ
  pub close : List ℕ
  pub is_report : IsReport command w report
  pub is_close : IsClosing command w close
  pub is_all : more ≡ report ++ close

-- a text is what a command that comes to its end puts first
abbrev pub IsPutFirst : Command → WorldState → List ℕ → Type 0
IsPutFirst command w text = IsReport command w text × ((more : List ℕ) → IsWhole command w more → IsPrefixOf more text)

-- a beginning of the report
pub record IsInReport (command : Command) (w : WorldState) (more : List ℕ) : Type 0 where
  pub report : List ℕ
  pub is_report : IsReport command w report
  pub begun : IsPrefixOf report more

-- the whole report, and a beginning of the closing text
pub record IsInClosing (command : Command) (w : WorldState) (more : List ℕ) : Type 0 where
  pub report : List ℕ
  pub close : List ℕ
  pub rest : List ℕ
  pub is_report : IsReport command w report
  pub is_close : IsClosing command w close
  pub is_all : more ≡ report ++ rest
  pub begun : IsPrefixOf close rest

-- nothing was put, and nothing has changed at any moment
pub record IsIdle (host after : HostState) (sink put : SinkState) : Type 0 where
  pub unchanged : Passes host after IsSame
  pub silent : Puts sink put (λ more. more ≡ [])

-- how a command breaks off where the host fails or memory is wanting: before anything was put or changed, or after
-- the report of one that changes something
pub data IsBrokenOff (command : Command) (host after : HostState) (sink put : SinkState) : Type 0 where
  BeforeReport : IsIdle host after sink put → IsBrokenOff command host after sink put
  AfterReport : (IsQuery command → ⊥) → Told host (λ w. Refuses command w None) → Told host (λ w. Puts sink put (IsReport command w)) →
      IsBrokenOff command host after sink put

-- how a command breaks off where the output fails: within the report, and nothing has changed at any moment; or
-- within the closing text, and the world is at its end
pub data IsFailedOutput (command : Command) (host after : HostState) (sink put : SinkState) : Type 0 where
  InReport : Passes host after IsSame → Told host (λ w. Puts sink put (IsInReport command w)) → IsFailedOutput command host after sink put
  InClosing : Leads host after (IsEndOf command) → Told host (λ w. Puts sink put (IsInClosing command w)) → IsFailedOutput command host after sink put
