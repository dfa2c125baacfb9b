-- The accounts of a system: NixOS manual, "User Management"; nixpkgs, update-users-groups.pl, whose input this is.
use Rattle.std.specs.Prelude.{◌≡◌, ℕ, Bool, true, List, [], map, All, codes, None, Ok, if◌then◌else◌}
use Rattle.std.specs.Option.{ok_or}
use Rattle.std.specs.Str.{is_utf8}
use Rattle.serde_json.specs.Data.{Data}
use Rattle.serde_json.specs.Find.{as_bool}
use Rattle.serde_json.specs.Read as json
use Rattle.users_spec.specs.AccountName.{are_distinct}
use Rattle.users_spec.specs.Fields.{Read, ◌>>=◌, field, needed, as_list, object_at, read_each}
use Rattle.users_spec.specs.GroupSpec.{group_after, IsSoundGroup}
use Rattle.users_spec.specs.UserSpec.{user_after, IsSoundUser}
use Rattle.users_spec.specs.declared.place.Place.TheVariants.{Top}
use Rattle.users_spec.specs.declared.spec_fault.SpecFault.TheVariants.{Json}
use Rattle.users_spec.specs.declared.group_spec.GroupSpec.{GroupSpec}
use Rattle.users_spec.specs.declared.user_spec.UserSpec.{UserSpec}

-- whether accounts that aren't declared stay, and the accounts in the order of declaration
pub record Accounts : Type 0 where
  pub mutable : Bool
  pub groups : List GroupSpec
  pub users : List UserSpec

-- the JSON value of bytes, which must be UTF-8
unfoldable pub json_of : List ℕ → Read Data
json_of bytes = ok_or (if is_utf8 bytes then json.read bytes else None) Json

-- the accounts of a value: its keys first, then each group, then each user
unfoldable pub accounts_in : Data → Read Accounts
accounts_in d = do
  _ ← object_at Top d
  mutable ← field (needed as_bool) Top (codes "mutableUsers") d
  group_values ← field (needed as_list) Top (codes "groups") d
  user_values ← field (needed as_list) Top (codes "users") d
  groups ← read_each group_after [] group_values
  users ← read_each user_after [] user_values
  Ok (record { mutable = mutable; groups = groups; users = users })

-- what a specification declares, or its first fault
abbrev pub accounts_of : List ℕ → Read Accounts
accounts_of bytes = json_of bytes >>= accounts_in

-- the names of the groups, in the order of declaration
abbrev pub group_names : Accounts → List (List ℕ)
group_names accounts = map (λ group. group.name) accounts.groups

-- the names of the users, in the order of declaration
abbrev pub user_names : Accounts → List (List ℕ)
user_names accounts = map (λ user. user.name) accounts.users

-- no two groups and no two users have one name, and each account is sound
pub record IsSound (accounts : Accounts) : Type 0 where
  pub groups : are_distinct (group_names accounts) ≡ true
  pub users : are_distinct (user_names accounts) ≡ true
  pub each_group : All IsSoundGroup accounts.groups
  pub each_user : All IsSoundUser accounts.users
