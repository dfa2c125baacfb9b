-- The users of a made machine: NixOS manual, "User Management".
use Rattle.std.specs.Prelude.{◌==◌, ◌++◌, ◌∷◌, ◌/◌, ◌%◌, ℕ, zero, suc, List, [], codes, if◌then◌else◌}
use Rattle.std.specs.Fmt.{decimal}
use Rattle.host_trait.specs.declared.leaf.LeafKind.{LeafKind}
use Rattle.made_world.specs.Draws.{draw_at}
use Rattle.made_world.specs.Putting.{file_in, new_system, old_system}
use Rattle.switch_names.specs.Names.{Name}

-- a user as a specification declares it
abbrev pub user_text : ℕ → ℕ → List ℕ
user_text number draw =
    codes "{\"name\":\"user" ++ (decimal number ++ (codes "\",\"group\":\"users\",\"isSystemUser\":" ++ ((if draw / 16 % 2 == 1 then codes "true" else codes "false") ++ codes "}")))

-- objects with a further one after them
abbrev pub with_object : List ℕ → List ℕ → List ℕ
with_object [] object = object
with_object objects object = objects ++ (44 ∷ object)

-- the objects of a system with this user after them, where the system declares it: where this digit isn't 0
abbrev pub with_user : ℕ → ℕ → ℕ → List ℕ → List ℕ
with_user digit number draw objects = if digit == 0 then objects else with_object objects (user_text number draw)

-- the first so many users, which take the next draws, as the old system declares them
abbrev pub old_users : ℕ → ℕ → List ℕ
old_users seed zero = []
old_users seed (suc count) = with_user (draw_at seed (suc count) % 4) count (draw_at seed (suc count)) (old_users seed count)

-- the same as the new system declares them
abbrev pub new_users : ℕ → ℕ → List ℕ
new_users seed zero = []
new_users seed (suc count) = with_user (draw_at seed (suc count) / 4 % 4) count (draw_at seed (suc count)) (new_users seed count)

-- a specification that declares these users, and their group
abbrev pub spec_text : List ℕ → List ℕ
spec_text users = codes "{\"mutableUsers\":true,\"groups\":[{\"name\":\"users\",\"gid\":100}],\"users\":[" ++ (users ++ codes "]}")

-- that of a system
abbrev pub spec_file : Name → List ℕ → Name × LeafKind
spec_file system users = file_in system (codes "users-groups.json") (spec_text users)

-- those of both systems
abbrev pub users_leaves : ℕ → ℕ → List (Name × LeafKind)
users_leaves seed count = spec_file old_system (old_users seed count) ∷ spec_file new_system (new_users seed count) ∷ []
