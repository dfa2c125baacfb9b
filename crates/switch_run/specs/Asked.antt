-- What words ask for, and how a run of them ends: NixOS manual, "Upgrading NixOS"; nix-env(1), "--list-generations";
-- nix-collect-garbage(1).
use Rattle.std.specs.Prelude.{◌≡◌, ℕ, Bool, true, false, List, None, Some, Result, Err}
use Rattle.host_trait.specs.declared.tree.HostFault.TheVariants as faults
use Rattle.host_trait.specs.Change.{IsSame}
use Rattle.host_trait.specs.Host.{HasCauseOf, HostState, Passes}
use Rattle.host_trait.specs.Sink.{SinkState}
use Rattle.switch_run.specs.declared.asked.Asked.{Asked}
use Rattle.switch_run.specs.declared.asked.Asked.TheVariants.{Command, Generations, Rehearsal, RehearsalWithJobs, Collection, Nothing}
use Rattle.switch_run.specs.declared.run_fault.RunFault.{RunFault}
use Rattle.switch_run.specs.declared.run_fault.RunFault.TheVariants.{Host}
use Rattle.switch_run.specs.Collecting.{AsksCollection}
use Rattle.switch_run.specs.CollectionEnding.{IsCollectionRun}
use Rattle.switch_run.specs.Commands.{command_of}
use Rattle.switch_run.specs.Ending.{IsEnding}
use Rattle.switch_run.specs.Listing.{IsListing, asks_list}
use Rattle.switch_run.specs.Rehearsing.{AsksRehearsal, IsRehearsing, asks_jobs}

-- words ask for no collection
abbrev pub AsksNoCollection : List (List ℕ) → Type 0
AsksNoCollection words = (keep : ℕ) → AsksCollection words keep → ⊥

-- words give no command, and ask neither for the list of the generations nor for a rehearsal or a collection
pub record AsksNothing (words : List (List ℕ)) : Type 0 where
  pub command : command_of words ≡ None
  pub list : asks_list words ≡ false
  pub rehearsal : (number : ℕ) → AsksRehearsal words number → ⊥
  pub collection : AsksNoCollection words

-- words ask for this
abbrev pub IsAskedBy : List (List ℕ) → Asked → Type 0
IsAskedBy words (Command command) = command_of words ≡ Some command
IsAskedBy words Generations = asks_list words ≡ true
IsAskedBy words (Rehearsal number) = (asks_jobs words ≡ false) × AsksRehearsal words number
IsAskedBy words (RehearsalWithJobs number) = (asks_jobs words ≡ true) × AsksRehearsal words number
IsAskedBy words (Collection keep) = AsksCollection words keep
IsAskedBy words Nothing = AsksNothing words

-- a host was asked for nothing
pub record IsUntouched (host after : HostState) : Type 0 where
  pub same : Passes host after IsSame
  pub faults : after.faults ≡ host.faults
  pub cause : HasCauseOf host after ⊥

-- how what is asked for ends; a rehearsal doesn't touch the host
abbrev pub HasAnswered : Asked → HostState → HostState → SinkState → SinkState → Result Bool RunFault → Type 0
HasAnswered (Command command) host after sink put ending = IsEnding (Some command) host after sink put ending
HasAnswered Generations host after sink put ending = IsListing host after sink put ending
HasAnswered (Rehearsal number) host after sink put ending = IsUntouched host after × IsRehearsing number sink put ending
HasAnswered (RehearsalWithJobs number) host after sink put ending = IsUntouched host after × IsRehearsing number sink put ending
HasAnswered (Collection keep) host after sink put ending = IsCollectionRun keep host after sink put ending
HasAnswered Nothing host after sink put ending = IsEnding None host after sink put ending

-- how a run of words ends: as what they ask for does, or before they were read, for want of memory
pub data IsRun (words : List (List ℕ)) (host after : HostState) (sink put : SinkState) (ending : Result Bool RunFault) : Type 0 where
  Answered : (asked : Asked) → IsAskedBy words asked → HasAnswered asked host after sink put ending → IsRun words host after sink put ending
  Unread : IsUntouched host after → put ≡ sink → ending ≡ Err (Host faults.Memory) → IsRun words host after sink put ending
