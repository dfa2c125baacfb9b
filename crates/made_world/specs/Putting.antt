-- A made machine: leaves that are put at paths, one after the other.
use Rattle.std.specs.Prelude.{◌++◌, ◌∷◌, ℕ, List, [], codes}
use Rattle.std.specs.FinMap.{empty, insert}
use Rattle.host_trait.specs.Leaf.{open_file}
use Rattle.host_trait.specs.declared.entry.Bad.{Bad}
use Rattle.host_trait.specs.declared.leaf.LeafKind.{LeafKind}
use Rattle.host_trait.specs.Manager.{empty_manager}
use Rattle.host_trait.specs.World.{Leaves, WorldState}
use Rattle.switch_names.specs.Names.{Name}

-- the system that is in use on it
unfoldable pub old_system : Name
old_system = codes "nix/store/old-sys"

-- the system to which it is switched
unfoldable pub new_system : Name
new_system = codes "nix/store/new-sys"

-- a file of a system, at its place below the system
abbrev pub file_in : Name → Name → List ℕ → Name × LeafKind
file_in system place bytes = (system ++ (47 ∷ place), open_file bytes)

-- these leaves put, one after the other
abbrev pub put_all : Leaves → List (Name × LeafKind) → Leaves
put_all leaves [] = leaves
put_all leaves (one ∷ more) = put_all (insert leaves one.0 one.1) more

-- a world with these leaves alone, where these units fail when they are started under some definitions
abbrev pub world_of : List (Name × LeafKind) → List Bad → WorldState
world_of leaves bad = record { leaves = put_all empty leaves; manager = record empty_manager { bad = bad }; written = [] }

-- the same world with further leaves
abbrev pub with_leaves : List (Name × LeafKind) → WorldState → WorldState
with_leaves leaves w = record w { leaves = put_all w.leaves leaves }

-- the same world, where further units fail
abbrev pub with_bad : List Bad → WorldState → WorldState
with_bad bad w = record w { manager = record w.manager { bad = w.manager.bad ++ bad } }
