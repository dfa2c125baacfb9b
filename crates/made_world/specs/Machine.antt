-- A made machine before its old system was ever switched to: its store, and the units that fail.
use Rattle.std.specs.Prelude.{◌≡◌, ◌+◌, ◌++◌, ◌∷◌, ℕ, List, [], codes}
use Rattle.host_trait.specs.declared.leaf.LeafKind.{LeafKind}
use Rattle.made_world.specs.declared.machine.Machine.{Machine}
use Rattle.made_world.specs.Draws.{state_at}
use Rattle.made_world.specs.Entries.{entries_leaves}
use Rattle.made_world.specs.Putting.{file_in, new_system, old_system, world_of}
use Rattle.made_world.specs.Units.{units_bad, units_leaves, units_states}
use Rattle.made_world.specs.Users.{users_leaves}
use Rattle.switch_names.specs.Names.{Name}

-- the versions of the systems
abbrev pub version_leaves : List (Name × LeafKind)
version_leaves = file_in old_system (codes "nixos-version") (codes "1\n") ∷ file_in new_system (codes "nixos-version") (codes "1\n") ∷ []

-- the files of both systems: units, entries and users take their draws one after the other
abbrev pub machine_leaves : ℕ → ℕ → ℕ → ℕ → List (Name × LeafKind)
machine_leaves number units entries users =
    version_leaves
    ++ (units_leaves number units
    ++ (entries_leaves (state_at number units) entries
    ++ users_leaves (state_at number (units + entries)) users))

-- what a number makes
pub record IsMachine (number units entries users : ℕ) (made : Machine) : Type 0 where
  pub world : made.world ≡ world_of (machine_leaves number units entries users) (units_bad number units)
  pub states : made.states ≡ units_states number units
