-- Calls that change nothing: read(2), readdir(3), systemctl(1) "list-units".
use Rattle.std.specs.Prelude.{Result}
use Rattle.host_trait.specs.declared.tree.HostFault.{HostFault}
use Rattle.host_trait.specs.Change.{IsSame}
use Rattle.host_trait.specs.Host.{HostState, HasCause, HasCauseOf, Passes}

-- a call that changes nothing: each moment of it is the world before it, and a fault of the device has its cause
pub record IsReading {T : Type 0} (old new : HostState) (result : Result T HostFault) : Type 0 where
  pub moments : Passes old new IsSame
  pub cause : HasCause old new result

-- the same of a call whose own answer hands a fault of the device on
pub record IsReadingOf (old new : HostState) (fault : Type 0) : Type 0 where
  pub moments : Passes old new IsSame
  pub cause : HasCauseOf old new fault
