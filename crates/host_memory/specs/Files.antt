-- Files and their lengths: inode(7).
use Rattle.std.specs.Prelude.{ℕ, length, Option, None, Some}
use Rattle.host_trait.specs.declared.leaf.LeafKind.{LeafKind}
use Rattle.host_trait.specs.declared.leaf.LeafKind.TheVariants.{File, Link}

-- how many bytes a file has
abbrev pub file_length : Option LeafKind → ℕ
file_length None = 0
file_length (Some (File bytes mode uid gid)) = length bytes
file_length (Some (Link target)) = 0
