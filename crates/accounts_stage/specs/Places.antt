-- Where accounts stand: passwd(5), group(5), shadow(5); nixpkgs, update-users-groups.pl, "/var/lib/nixos".
use Rattle.std.specs.Prelude.{◌∷◌, ◌++◌, Bool, true, false, List, [], codes}
use Rattle.host_trait.specs.World.{stage}
use Rattle.switch_names.specs.Names.{Name}
use Rattle.switch_parts.specs.Leaves.{is_among}
use Rattle.switch_parts.specs.declared.refusal.TableFile.{TableFile}
use Rattle.switch_parts.specs.declared.refusal.TableFile.TheVariants.{Group, Passwd, Shadow}
use Rattle.tree_put.specs.declared.written_place.WrittenPlace.{WrittenPlace}
use Rattle.tree_put.specs.WrittenPlace.{written}

-- the table of groups
unfoldable pub group_place : Name
group_place = codes "etc/group"

-- the table of users
unfoldable pub passwd_place : Name
passwd_place = codes "etc/passwd"

-- the table of the users' passwords
unfoldable pub shadow_place : Name
shadow_place = codes "etc/shadow"

-- where a table stands
abbrev pub table_place : TableFile → Name
table_place Group = group_place
table_place Passwd = passwd_place
table_place Shadow = shadow_place

-- the names of groups that were declared
unfoldable pub groups_place : Name
groups_place = codes "var/lib/nixos/declarative-groups"

-- the names of users that were declared
unfoldable pub users_place : Name
users_place = codes "var/lib/nixos/declarative-users"

-- the ids that groups had
unfoldable pub gids_place : Name
gids_place = codes "var/lib/nixos/gid-map"

-- the ids that users had
unfoldable pub uids_place : Name
uids_place = codes "var/lib/nixos/uid-map"

-- where a system keeps what it declares of accounts
unfoldable pub spec_path : Name → Name
spec_path system = system ++ codes "/users-groups.json"

-- the places of accounts whose contents are taken, in byte order
unfoldable pub taken_names : List Name
taken_names = group_place ∷ passwd_place ∷ shadow_place ∷ groups_place ∷ users_place ∷ gids_place ∷ uids_place ∷ []

-- all places of accounts
unfoldable pub account_names : List Name
account_names = group_place ∷ passwd_place ∷ shadow_place ∷ groups_place ∷ users_place ∷ gids_place ∷ uids_place ∷ []

-- the tables, each of which is read before it is written
unfoldable pub table_places : List WrittenPlace
table_places = written true group_place ∷ written true passwd_place ∷ written true shadow_place ∷ []

-- the names and the ids that are remembered, likewise
unfoldable pub memory_places : List WrittenPlace
memory_places = written true groups_place ∷ written true users_place ∷ written true gids_place ∷ written true uids_place ∷ []

-- the places of accounts, and the stage, in byte order
abbrev pub account_places : List WrittenPlace
account_places = table_places ++ (written false stage ∷ memory_places)

-- a path is a place of accounts
abbrev pub owns_accounts : Name → Bool
owns_accounts q = is_among account_names q
