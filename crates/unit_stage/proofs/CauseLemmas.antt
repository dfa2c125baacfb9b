-- A fault of several calls, one after the other, has its cause in the call that failed.
use Rattle.std.proofs.Common.{Result, Ok}
use Rattle.host_trait.specs.declared.tree.HostFault.{HostFault}
use Rattle.host_trait.specs.Host.{HasCause, HostState}
use Rattle.host_trait.proofs.Causes.{cause_ok, cause_then}

module _ {a b c : HostState} where
  pub cause_end : {T U V : Type 0} {r : Result T HostFault} {s : Result U HostFault} {x : V} → HasCause a b r → HasCause b c s → HasCause a c (Ok x)
  cause_end {x = x} first second = cause_ok (cause_then first second) x
