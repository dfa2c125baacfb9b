-- What the calls that change a world mean.
use Rattle.std.specs.Prelude.{◌≢◌, IsSome}
use Rattle.std.specs.FinMap.{get}
use Rattle.host_memory.specs.declared.changing_call.ChangingCall.{ChangingCall}
use Rattle.host_memory.specs.declared.changing_call.ChangingCall.TheVariants as asked
use Rattle.host_trait.specs.Change.{Change, Stage, Rename, Remove, Append, Perform, DaemonReload}
use Rattle.host_trait.specs.World.{WorldState, IsClear, IsFileAt, stage}

-- the change that a call asks for
abbrev pub change_of : ChangingCall → Change
change_of (asked.Stage leaf) = Stage leaf.now
change_of (asked.Rename to) = Rename to.now
change_of (asked.Remove at) = Remove at.now
change_of (asked.Append at bytes) = Append at.now bytes.now
change_of (asked.Perform act unit) = Perform act unit.now
change_of asked.DaemonReload = DaemonReload

-- a leaf is staged where the stage is clear, and moved from the stage to a clear place
abbrev pub CanHappen : Change → WorldState → Type 0
CanHappen (Stage leaf) w = IsClear w.leaves stage
CanHappen (Rename to) w = IsSome (get w.leaves stage) × IsClear w.leaves to × (to ≢ stage)
CanHappen (Remove at) w = Unit {0}
CanHappen (Append at bytes) w = IsFileAt w.leaves at
CanHappen (Perform act unit) w = Unit {0}
CanHappen DaemonReload w = Unit {0}
