-- Passwd rows of users, as they are made one after another.
use Rattle.std.specs.Prelude.{ℕ, Bool, List, ◌++◌, filter, Option, option_map}
use Rattle.std.specs.Borrow.{Bor}
use Rattle.std.specs.BTreeMap.{BTreeMap}
use Rattle.std.specs.List.{filter_map}
use Rattle.switch_names.specs.Names.{Name}
use Rattle.account_text.specs.declared.group.GroupRow.{GroupRow}
use Rattle.account_text.specs.declared.passwd.PasswdRow.{PasswdRow}
use Rattle.account_text.specs.Group.{group_name}
use Rattle.users_spec.specs.declared.user_spec.UserSpec.{UserSpec}
use Rattle.users_merge.specs.ByName.{found_in, row_ids}
use Rattle.users_merge.specs.Rows.{declared_row}
use Rattle.users_merge.specs.declared.giving.Given.{Given}

-- the id of a group, by group rows under their names
abbrev pub gid_in : BTreeMap Name (Bor GroupRow) → Name → Option ℕ
gid_in groups name = option_map (λ row. row.gid) (found_in groups name)

-- the id of a group, by group rows
abbrev pub gid_named : List GroupRow → Name → Option ℕ
gid_named rows = row_ids group_name (λ row. row.gid) rows

-- the passwd row of a user who got an id, where its group has one
abbrev pub given_row : (Name → Option ℕ) → Given UserSpec → Option PasswdRow
given_row gids one = option_map (declared_row one.account.now one.id) (gids one.account.now.group)

-- the passwd rows of the declared users, and those that stay
abbrev pub merged_users : (Name → Bool) → (Name → Option ℕ) → List (Given UserSpec) → List PasswdRow → List PasswdRow
merged_users users gids given table = filter_map (given_row gids) given ++ filter (λ row. users row.name) table
