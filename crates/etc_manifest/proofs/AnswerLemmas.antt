-- Faults of the host, from one call to the next.
use Rattle.std.proofs.Common.{◌≡◌, ℕ, List, Result, Ok, Err, IsErrAnd, IsErrOf}
use Rattle.host_trait.specs.declared.tree.HostFault.{HostFault}
use Rattle.host_trait.specs.declared.tree.HostFault.TheVariants.{Device, Memory}
use Rattle.etc_manifest.specs.declared.manifest_fault.ManifestFault.{ManifestFault}
use Rattle.etc_manifest.specs.declared.manifest_fault.ManifestFault.TheVariants.{Reserved, Entry, Host}

module _ {T : Type 0} where
  -- want of memory is no fault of the device
  pub no_host : (s : Result T ManifestFault) → IsErrAnd s (λ x. x ≡ Host Memory) → IsErrOf s (Host Device) → ⊥
  no_host (Ok x) is fault = absurd is
  no_host (Err x) is fault = cc

  -- an answer that hands a fault on has a fault of the device only where that one is
  pub fault_handed : {U : Type 0} (f : ManifestFault) (s : Result T ManifestFault) → IsErrAnd s (λ x. x ≡ f) → IsErrOf s (Host Device) → IsErrOf {T = U} (Err f) (Host Device)
  fault_handed f (Ok x) is fault = absurd is
  fault_handed f (Err x) is fault = cc

  -- nor does one of the host itself
  pub host_handed : {U : Type 0} (f : HostFault) (s : Result T ManifestFault) → IsErrAnd s (λ x. x ≡ Host f) → IsErrOf s (Host Device) → IsErrOf {T = U} (Err f) Device
  host_handed f (Ok x) is fault = absurd is
  host_handed f (Err x) is fault = cc

  -- what is wrong with an entry is no fault of the device
  pub reserved_no_host : (place : List ℕ) → IsErrOf {T = T} (Err (Reserved place)) (Host Device) → ⊥
  reserved_no_host place is = cc

  pub entry_no_host : (place : List ℕ) → IsErrOf {T = T} (Err (Entry place)) (Host Device) → ⊥
  entry_no_host place is = cc

  -- and nothing is, where all went well
  pub fine_no_host : (given : T) → IsErrOf (Ok given) (Host Device) → ⊥
  fine_no_host given is = cc
