-- The calls that change a world, and what a cut within each may leave: rename(2), unlink(2), write(2), systemctl(1).
use Rattle.std.specs.Prelude.{◌≡◌, ◌⊎◌, ℕ, List, [], codes, ◌++◌, ◌∷◌, take, Option, None, Some}
use Rattle.std.specs.FinMap.{get, insert}
use Rattle.host_trait.specs.declared.entry.Act.{Act}
use Rattle.host_trait.specs.declared.entry.Act.TheVariants.{Stop, Reload, Restart, Start}
use Rattle.host_trait.specs.declared.leaf.LeafKind.{LeafKind}
use Rattle.host_trait.specs.declared.leaf.LeafKind.TheVariants.{File, Link}
use Rattle.host_trait.specs.Manager.{acted, halted, loading}
use Rattle.host_trait.specs.World.{WorldState, moved, seen, stage, with_manager, with_more, without_leaf}

-- a call that changes the world
pub data Change : Type 0 where
  Stage : LeafKind → Change
  Rename : List ℕ → Change
  Remove : List ℕ → Change
  Append : List ℕ → List ℕ → Change
  Perform : Act → List ℕ → Change
  DaemonReload : Change

-- where the definitions lie that a manager loads: systemd.unit(5), "Unit File Load Path"
unfoldable pub definitions_place : List ℕ
definitions_place = codes "etc/static"

-- what a manager loads where this leaf stands there
abbrev pub loaded_from : Option LeafKind → List ℕ
loaded_from None = []
loaded_from (Some (File bytes mode uid gid)) = []
loaded_from (Some (Link target)) = target

-- the world that a finished call leaves
abbrev pub finished : Change → WorldState → WorldState
finished (Stage leaf) w = record w { leaves = insert w.leaves stage leaf }
finished (Rename to) w = record w { leaves = moved w.leaves stage to; written = w.written ++ to ∷ [] }
finished (Remove at) w = without_leaf at w
finished (Append at bytes) w = record w { leaves = with_more w.leaves at bytes; written = w.written ++ at ∷ [] }
finished (Perform act unit) w = with_manager (acted act unit w.manager) w
finished DaemonReload w = with_manager (loading (loaded_from (get w.leaves definitions_place)) w.manager) w

-- what a cut in the middle of a call may leave: any leaf or none at the stage while it is written, the first of the
-- bytes that are appended, and a unit stopped while it is restarted
abbrev pub IsMiddle : Change → WorldState → WorldState → Type 0
IsMiddle (Stage leaf) w m = seen m ≡ seen w
IsMiddle (Rename to) w m = ⊥
IsMiddle (Remove at) w m = ⊥
IsMiddle (Append at bytes) w m = (count : ℕ) × (m ≡ record w { leaves = with_more w.leaves at (take count bytes) })
IsMiddle (Perform Restart unit) w m = m ≡ with_manager (halted unit w.manager) w
IsMiddle (Perform Stop unit) w m = ⊥
IsMiddle (Perform Reload unit) w m = ⊥
IsMiddle (Perform Start unit) w m = ⊥
IsMiddle DaemonReload w m = ⊥

-- what a cut may leave: the world before the call, the one after it, or one in its middle
abbrev pub IsMoment : Change → WorldState → WorldState → Type 0
IsMoment change w m = (m ≡ w) ⊎ (m ≡ finished change w) ⊎ IsMiddle change w m

-- a call that changes nothing has one moment
abbrev pub IsSame : WorldState → WorldState → Type 0
IsSame w m = m ≡ w
