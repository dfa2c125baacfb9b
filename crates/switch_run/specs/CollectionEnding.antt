-- How a collection ends, and what is put and changed until then: nix-collect-garbage(1).
use Rattle.std.specs.Prelude.{◌≡◌, ℕ, [], Bool, false, IsErrOf, Result, Ok, Err}
use Rattle.host_trait.specs.Change.{IsSame}
use Rattle.host_trait.specs.declared.tree.HostFault.TheVariants.{Device, Memory}
use Rattle.host_trait.specs.Host.{HasCauseOf, HostState, Leads, Passes, Told}
use Rattle.host_trait.specs.Sink.{Puts, SinkState}
use Rattle.host_trait.specs.World.{WorldState}
use Rattle.store_collect.specs.declared.collection.Collection.{Collection}
use Rattle.store_collect.specs.Collection.{IsCollectionOf}
use Rattle.switch_parts.specs.declared.refusal.Refusal.{Refusal}
use Rattle.switch_run.specs.declared.run_fault.RunFault.{RunFault}
use Rattle.switch_run.specs.declared.run_fault.RunFault.TheVariants.{Usage, Refused, Host, Sink}
use Rattle.store_collect.specs.Again.{IsAllowed, IsCollected}
use Rattle.switch_run.specs.Collecting.{IsCollectionMoment, IsCollectionReport, IsInCollectionClosing, IsInCollectionReport, IsWholeCollection, RefusesCollection}
use Rattle.switch_run.specs.Ending.{IsSinkCaused}
use Rattle.switch_run.specs.Output.{IsIdle}

-- the world of a host refuses no collection that keeps so many generations
abbrev pub Allows : ℕ → HostState → Type 0
Allows keep host = Told host (λ w. IsAllowed keep w.leaves)

-- a collection has come to its end
pub record IsCollectionDone (keep : ℕ) (host after : HostState) (sink put : SinkState) : Type 0 where
  pub allowed : Allows keep host
  pub led : Leads host after (IsCollected keep)
  pub output : Told host (λ w. Puts sink put (IsWholeCollection keep w))

-- a collection is refused for this reason
pub record IsCollectionRefused (keep : ℕ) (host after : HostState) (sink put : SinkState) (why : Refusal) : Type 0 where
  pub refused : Told host (λ w. RefusesCollection keep w.leaves why)
  pub idle : IsIdle host after sink put

-- how a collection breaks off where the host fails or memory is wanting: before anything was put or changed, or after the
-- report
pub data IsCollectionBroken (keep : ℕ) (host after : HostState) (sink put : SinkState) : Type 0 where
  BeforeReport : IsIdle host after sink put → IsCollectionBroken keep host after sink put
  AfterReport : Allows keep host → Told host (λ w. Puts sink put (IsCollectionReport keep w)) → IsCollectionBroken keep host after sink put

-- how a collection breaks off where the output fails: within the report, and nothing has changed at any moment; or within the
-- last line, and the world is at its end
pub data IsCollectionUnput (keep : ℕ) (host after : HostState) (sink put : SinkState) : Type 0 where
  InReport : Allows keep host → Passes host after IsSame → Told host (λ w. Puts sink put (IsInCollectionReport keep w)) → IsCollectionUnput keep host after sink put
  InClosing : Allows keep host → Leads host after (IsCollected keep) → Told host (λ w. Puts sink put (IsInCollectionClosing keep w)) → IsCollectionUnput keep host after sink put

-- what has come of a collection, by how it ended; no unit has failed
abbrev pub HasCollected : ℕ → HostState → HostState → SinkState → SinkState → Result Bool RunFault → Type 0
HasCollected keep host after sink put (Ok failed) = (failed ≡ false) × IsCollectionDone keep host after sink put
HasCollected keep host after sink put (Err (Refused why)) = IsCollectionRefused keep host after sink put why
HasCollected keep host after sink put (Err (Host fault)) = IsCollectionBroken keep host after sink put
HasCollected keep host after sink put (Err Sink) = IsCollectionUnput keep host after sink put
HasCollected keep host after sink put (Err Usage) = ⊥

-- how a run ends that collects
pub record IsCollectionRun (keep : ℕ) (host after : HostState) (sink put : SinkState) (ending : Result Bool RunFault) : Type 0 where
  pub come : HasCollected keep host after sink put ending
  pub moments : Passes host after (IsCollectionMoment keep)
  pub cause : HasCauseOf host after (IsErrOf ending (Host Device))
  pub sink_cause : IsSinkCaused sink put (IsErrOf ending Sink)

-- what has come of the report of a collection, by how the put of it ended
abbrev pub HasReportedCollection : Collection → SinkState → SinkState → Result (Unit {0}) RunFault → Type 0
HasReportedCollection collection sink put (Ok done) = (keep : ℕ) (w : WorldState) → IsCollectionOf keep w collection → Puts sink put (IsCollectionReport keep w)
HasReportedCollection collection sink put (Err Sink) = (keep : ℕ) (w : WorldState) → IsCollectionOf keep w collection → Puts sink put (IsInCollectionReport keep w)
HasReportedCollection collection sink put (Err (Host Memory)) = Puts sink put (λ more. more ≡ [])
HasReportedCollection collection sink put ended = ⊥
