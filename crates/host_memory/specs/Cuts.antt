-- What a cut leaves of the call that it falls on.
use Rattle.std.specs.Prelude.{ℕ, ◌+◌, length, take, ◌%◌, ◌==◌, if◌then◌else◌}
use Rattle.host_trait.specs.Change.{Change, Stage, Rename, Remove, Append, Perform, DaemonReload, finished}
use Rattle.host_trait.specs.declared.entry.Act.TheVariants.{Stop, Reload, Restart, Start}
use Rattle.host_trait.specs.Reboot.{blank}
use Rattle.host_trait.specs.Manager.{halted}
use Rattle.host_trait.specs.World.{WorldState, with_manager, with_more}

-- by its number modulo that of the moments: the world before the call, an empty file at the stage or a unit half way
-- through its restart, the world after
abbrev pub left_by : Change → ℕ → WorldState → WorldState
left_by (Stage leaf) pick w =
    if pick % 3 == 0 then w else if pick % 3 == 1 then finished (Stage blank) w else finished (Stage leaf) w
left_by (Rename to) pick w = if pick % 2 == 0 then w else finished (Rename to) w
left_by (Remove at) pick w = if pick % 2 == 0 then w else finished (Remove at) w
left_by (Append at bytes) pick w =
    if pick % (length bytes + 1) == length bytes then finished (Append at bytes) w else record w { leaves = with_more w.leaves at (take (pick % (length bytes + 1)) bytes) }
left_by (Perform Restart unit) pick w =
    if pick % 3 == 0 then w else if pick % 3 == 1 then with_manager (halted unit w.manager) w else finished (Perform Restart unit) w
left_by (Perform Stop unit) pick w = if pick % 2 == 0 then w else finished (Perform Stop unit) w
left_by (Perform Reload unit) pick w = if pick % 2 == 0 then w else finished (Perform Reload unit) w
left_by (Perform Start unit) pick w = if pick % 2 == 0 then w else finished (Perform Start unit) w
left_by DaemonReload pick w = if pick % 2 == 0 then w else finished DaemonReload w
