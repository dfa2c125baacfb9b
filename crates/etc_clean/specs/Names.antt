-- Names below /etc.
use Rattle.std.specs.Prelude.{ℕ, ◌++◌, Bool, List, codes, drop, filter, map, nat_eq}
use Rattle.std.specs.FinMap.{keys}
use Rattle.std.specs.List.{starts_with}
use Rattle.switch_names.specs.Names.{Name}
use Rattle.host_trait.specs.World.{Leaves}

-- the folder of all that a farm puts
unfoldable pub etc_folder : List ℕ
etc_folder = codes "etc"

-- the path of a name below etc
unfoldable pub place : Name → List ℕ
place q = codes "etc/" ++ q

-- a path is that of a name below etc
unfoldable pub is_in_etc : List ℕ → Bool
is_in_etc path = starts_with nat_eq path (codes "etc/")

-- the name below etc that such a path has
unfoldable pub name_of : List ℕ → Name
name_of path = drop 4 path

-- the names below etc of these paths
abbrev pub names_below : List (List ℕ) → List Name
names_below paths = map name_of (filter is_in_etc paths)

-- the names below etc that have a leaf
abbrev pub etc_names : Leaves → List Name
etc_names leaves = names_below (keys leaves)
