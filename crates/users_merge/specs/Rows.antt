-- The row of one name, from what is declared of it and the row that it had: NixOS manual, "User Management", and option `users.mutableUsers`.
use Rattle.std.specs.Prelude.{ℕ, ◌&&◌, Bool, true, false, not, List, [], ◌++◌, codes, filter, Option, None, Some, option_map, if◌then◌else◌}
use Rattle.std.specs.Option.{option_or, option_map_or, unwrap_or}
use Rattle.switch_names.specs.Names.{Name, has}
use Rattle.account_text.specs.declared.group.GroupRow.{GroupRow}
use Rattle.account_text.specs.declared.passwd.PasswdRow.{PasswdRow}
use Rattle.account_text.specs.declared.shadow.ShadowRow.{ShadowRow}
use Rattle.users_spec.specs.declared.group_spec.GroupSpec.{GroupSpec}
use Rattle.users_spec.specs.declared.user_spec.UserSpec.{UserSpec}
use Rattle.users_spec.specs.Spec.{Accounts, user_names}
use Rattle.users_merge.specs.Stored.{ordered}

-- the row of an account that isn't declared: it stays where such rows may, unless the account was declared before
abbrev pub stays : {Row : Type 0} → Bool → Bool → Option Row → Option Row
stays mutable was_declared row = if mutable && not was_declared then row else None

-- the password of a group's row, else `x`
abbrev pub group_password : Option GroupRow → List ℕ
group_password row = option_map_or (λ old. old.password) row (codes "x")

-- the members of a group's row
abbrev pub old_members : Option GroupRow → List Name
old_members row = option_map_or (λ old. old.members) row []

-- whether a member that a row has stays where members may: no user of its name is declared, and none was before
abbrev pub member_stays : Accounts → List Name → Name → Bool
member_stays spec before name = spec.mutable && not (has (user_names spec) name) && not (has before name)

-- the declared members, and those of the row that stay, in byte order
abbrev pub members : Accounts → List Name → GroupSpec → Option GroupRow → List Name
members spec before group row = ordered (group.members ++ filter (member_stays spec before) (old_members row))

-- the row of a group: by its declaration and its id, the users declared before, whether it was declared before, and its old row
abbrev pub group_row : Accounts → List Name → Option GroupSpec → Option ℕ → Bool → Option GroupRow → Option GroupRow
group_row spec before None id was_declared row = stays spec.mutable was_declared row
group_row spec before (Some group) None was_declared row = None
group_row spec before (Some group) (Some id) was_declared row =
    Some (record { name = group.name; password = group_password row; gid = id; members = members spec before group row })

-- the passwd row of a declared user
abbrev pub declared_row : UserSpec → ℕ → ℕ → PasswdRow
declared_row user id gid = record {
  name = user.name;
  password = codes "x";
  uid = id;
  gid = gid;
  gecos = user.description;
  home = user.home;
  shell = user.shell;
}

-- the passwd row of a user: by the ids of the groups, its declaration and its id, whether it was declared before, and its old row
abbrev pub passwd_row : Accounts → (Name → Option ℕ) → Option UserSpec → Option ℕ → Bool → Option PasswdRow → Option PasswdRow
passwd_row spec gids None id was_declared row = stays spec.mutable was_declared row
passwd_row spec gids (Some user) None was_declared row = None
passwd_row spec gids (Some user) (Some id) was_declared row = option_map (λ gid. declared_row user id gid) (gids user.group)

-- the hash of a password, where it is declared and can't be changed by anyone else, and else this password
abbrev pub fixed : Bool → Option (List ℕ) → List ℕ → List ℕ
fixed mutable hashed password = if mutable then password else unwrap_or hashed password

-- the password of a shadow row, else the declared hash, else that of the first password, else `!`
abbrev pub row_password : UserSpec → Option ShadowRow → List ℕ
row_password user row = option_map_or (λ old. old.password) row (unwrap_or (option_or user.hashed user.initial) (codes "!"))

-- the further fields of a shadow row, else `1` for the day of the last change, and six empty ones
abbrev pub shadow_rest : Option ShadowRow → List ℕ
shadow_rest row = option_map_or (λ old. old.rest) row (codes "1::::::")

-- the shadow row of a user: by its declaration, whether it has a passwd row, and its old row
abbrev pub shadow_row : Accounts → Option UserSpec → Bool → Option ShadowRow → Option ShadowRow
shadow_row spec user false row = None
shadow_row spec None true row = row
shadow_row spec (Some user) true row =
    Some (record { name = user.name; password = fixed spec.mutable user.hashed (row_password user row); rest = shadow_rest row })
