-- How a run ends that tells a text, and that nothing refuses.
use Rattle.std.specs.Prelude.{◌≡◌, Bool, false, [], Result, Ok, Err}
use Rattle.host_trait.specs.Sink.{Puts, SinkState}
use Rattle.switch_run.specs.declared.run_fault.RunFault.{RunFault}
use Rattle.switch_run.specs.declared.run_fault.RunFault.TheVariants.{Usage, Refused, Host, Sink}

-- what has come of a text, by how it ended: it is whole, begun where the output failed, or not there; no unit has failed
abbrev pub HasTold : Type 0 → Type 0 → SinkState → SinkState → Result Bool RunFault → Type 0
HasTold whole begun sink put (Ok failed) = (failed ≡ false) × whole
HasTold whole begun sink put (Err Sink) = begun
HasTold whole begun sink put (Err (Host fault)) = Puts sink put (λ more. more ≡ [])
HasTold whole begun sink put (Err (Refused why)) = ⊥
HasTold whole begun sink put (Err Usage) = ⊥
