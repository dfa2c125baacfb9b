-- The mounts and swaps that the fstab of a system defines: fstab(5), systemd-fstab-generator(8).
use Rattle.std.specs.Prelude.{ℕ, ◌&&◌, Bool, false, true, List, [], ◌++◌, map, filter, codes, Option, None, Some, option_map, if◌then◌else◌}
use Rattle.std.specs.List.{find}
use Rattle.std.specs.Option.{option_map_or}
use Rattle.switch_names.specs.declared.unit_kind.UnitKind.{UnitKind}
use Rattle.switch_names.specs.declared.unit_kind.UnitKind.TheVariants.{Mount, Swap}
use Rattle.switch_names.specs.Names.{Name, is_name}
use Rattle.switch_names.specs.UnitKind.{kind_of}
use Rattle.host_trait.specs.World.{Leaves, content_of}
use Rattle.unit_text.specs.declared.assignment.Assignment.{Assignment}
use Rattle.fstab_mounts.specs.declared.fs_unit.FsUnit.{FsUnit}
use Rattle.fstab_mounts.specs.Fstab.{fstab_units}

-- the fstab of a system
unfoldable pub fstab_path : List ℕ → List ℕ
fstab_path system = system ++ codes "/etc/fstab"

-- the units that the lines of a system's fstab define
abbrev pub fstab_of : Leaves → List ℕ → List FsUnit
fstab_of leaves system = option_map_or fstab_units (content_of leaves (fstab_path system)) []

-- the text of the unit of this name, where one of these lines defines it
abbrev pub line_text : List FsUnit → Name → Option (List Assignment)
line_text lines unit = option_map (λ line. line.text) (find (λ line. is_name line.unit unit) lines)

-- the names of the units of lines
abbrev pub names_of : List FsUnit → List Name
names_of lines = map (λ line. line.unit) lines

abbrev pub is_mount_kind : Option UnitKind → Bool
is_mount_kind (Some Mount) = true
is_mount_kind kind = false

abbrev pub is_swap_kind : Option UnitKind → Bool
is_swap_kind (Some Swap) = true
is_swap_kind kind = false

-- a line mounts a file system, and doesn't have the option `noauto`
abbrev pub is_auto_mount : FsUnit → Bool
is_auto_mount line = line.auto && is_mount_kind (kind_of line.unit)

-- a line turns a swap on
abbrev pub is_swap : FsUnit → Bool
is_swap line = is_swap_kind (kind_of line.unit)

-- the mounts without `noauto`
abbrev pub auto_mounts : List FsUnit → List Name
auto_mounts lines = names_of (filter is_auto_mount lines)

-- the swaps, with `noauto` or without
abbrev pub swaps : List FsUnit → List Name
swaps lines = names_of (filter is_swap lines)

-- the units that these lines make a unit want: `local-fs.target` the mounts without `noauto`, and `swap.target` the swaps
abbrev pub wanted_by_lines : List FsUnit → Name → List Name
wanted_by_lines lines unit =
    if is_name (codes "local-fs.target") unit then auto_mounts lines
    else if is_name (codes "swap.target") unit then swaps lines
    else []

-- the target that wants a unit of this kind
abbrev pub target_by : Option UnitKind → Bool → Option Name
target_by (Some Mount) true = Some (codes "local-fs.target")
target_by (Some Swap) auto = Some (codes "swap.target")
target_by kind auto = None

-- the target that wants the unit of a line
abbrev pub target_of : FsUnit → Option Name
target_of line = target_by (kind_of line.unit) line.auto
