-- Rows of groups, as they are made one after another.
use Rattle.std.specs.Prelude.{ℕ, Bool, List, ◌++◌, map, filter, Option}
use Rattle.switch_names.specs.Names.{Name}
use Rattle.account_text.specs.declared.group.GroupRow.{GroupRow}
use Rattle.account_text.specs.Group.{group_name}
use Rattle.account_text.specs.Order.{row_named}
use Rattle.users_spec.specs.declared.group_spec.GroupSpec.{GroupSpec}
use Rattle.users_merge.specs.Stored.{ordered}
use Rattle.users_merge.specs.Rows.{group_password, old_members}
use Rattle.users_merge.specs.declared.giving.Given.{Given}

-- the declared members, and those of the row that stay
abbrev pub members_by : (Name → Bool) → GroupSpec → Option GroupRow → List Name
members_by stays group row = ordered (group.members ++ filter stays (old_members row))

-- the row of a declared group
abbrev pub group_by : (Name → Bool) → GroupSpec → ℕ → Option GroupRow → GroupRow
group_by stays group gid row = record { name = group.name; password = group_password row; gid = gid; members = members_by stays group row }

-- the row of a group that got an id
abbrev pub given_group : (Name → Bool) → (Name → Option GroupRow) → Given GroupSpec → GroupRow
given_group stays old one = group_by stays one.account.now one.id (old one.account.now.name)

-- the rows of the declared groups, and those that stay
abbrev pub merged_groups : (Name → Bool) → (Name → Bool) → List (Given GroupSpec) → List GroupRow → List GroupRow
merged_groups groups users given table =
    map (given_group users (row_named group_name table)) given ++ filter (λ row. groups row.name) table
