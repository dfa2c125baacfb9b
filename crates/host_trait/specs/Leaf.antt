-- Leaves of the tree: files and symbolic links, inode(7) and symlink(7).
use Rattle.std.specs.Prelude.{◌≡◌, ◌≤◌, ℕ, ◌==◌, List, length, nat_lt, position, Option, None, Some, option_map, if◌then◌else◌}
use Rattle.switch_names.specs.declared.name_fault.NameFault.{NameFault}
use Rattle.switch_names.specs.declared.name_fault.NameFault.TheVariants.{Empty, Long, Byte}
use Rattle.switch_names.specs.Path.{is_no_path_byte}
use Rattle.host_trait.specs.declared.leaf.LeafKind.{LeafKind}
use Rattle.host_trait.specs.declared.leaf.LeafKind.TheVariants.{File, Link}

-- what keeps a text from being a link's target, in the order in which it is sought
abbrev pub link_fault : List ℕ → Option NameFault
link_fault target =
    if length target == 0 then Some Empty
    else if nat_lt 4096 (length target) then Some Long
    else option_map Byte (position is_no_path_byte target)

-- a file's mode has the twelve bits of permission, and a link's target is one
abbrev pub IsLeaf : LeafKind → Type 0
IsLeaf (File bytes mode uid gid) = mode ≤ 4095
IsLeaf (Link target) = link_fault target ≡ None

-- a file that all may read and root alone may write: mode 0644, owned by root
abbrev pub open_file : List ℕ → LeafKind
open_file bytes = File bytes 420 0 0
