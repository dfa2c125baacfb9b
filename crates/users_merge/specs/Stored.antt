-- Accounts as they stand, and as a merge leaves them: passwd(5), group(5), shadow(5).
use Rattle.std.specs.Prelude.{List, map}
use Rattle.std.specs.FinMap.{FinMap, from_entries, keys}
use Rattle.host_trait.specs.Bytes.{bytes_cmp}
use Rattle.switch_names.specs.Names.{Name}
use Rattle.account_text.specs.declared.group.GroupRow.{GroupRow}
use Rattle.account_text.specs.declared.passwd.PasswdRow.{PasswdRow}
use Rattle.account_text.specs.declared.shadow.ShadowRow.{ShadowRow}
use Rattle.account_text.specs.declared.tables.Tables.{Tables}
use Rattle.account_text.specs.Group.{group_name}
use Rattle.account_text.specs.Passwd.{passwd_name}
use Rattle.account_text.specs.Shadow.{shadow_name}
use Rattle.host_trait.specs.Ids.{Ids}
use Rattle.users_merge.specs.declared.declared_names.Declared.{Declared}
use Rattle.users_merge.specs.declared.remembered.Remembered.{Remembered}
use Rattle.users_merge.specs.declared.merged.Merged as answered

-- a table: the row of each name
abbrev pub Table : Type 0 → Type 0
Table Row = FinMap bytes_cmp Row

-- the table of rows, each under its name; of two rows with one name the first stands
abbrev pub table_of : {Row : Type 0} → (Row → Name) → List Row → Table Row
table_of name_of rows = from_entries (map (λ row. (name_of row, row)) rows)

-- names in byte order, each once
unfoldable pub ordered : List Name → List Name
ordered names = keys (from_entries {R = bytes_cmp} (map (λ name. (name, tt {0})) names))

-- what stands: three tables, the ids that are remembered, and the names that were declared before
pub record Stored : Type 0 where
  pub group : Table GroupRow
  pub passwd : Table PasswdRow
  pub shadow : Table ShadowRow
  pub uids : Ids
  pub gids : Ids
  pub users : List Name
  pub groups : List Name

-- what a merge leaves: the same, with the names that are declared now, and these with the earlier ones
pub record Merged : Type 0 where
  pub group : Table GroupRow
  pub passwd : Table PasswdRow
  pub shadow : Table ShadowRow
  pub uids : Ids
  pub gids : Ids
  pub users : List Name
  pub groups : List Name
  pub all_users : List Name
  pub all_groups : List Name

-- what stands, of the tables, the ids and the names that were read
abbrev pub stored_of : Tables → Remembered → Declared → Stored
stored_of tables remembered declared = record {
  group = table_of group_name tables.group;
  passwd = table_of passwd_name tables.passwd;
  shadow = table_of shadow_name tables.shadow;
  uids = remembered.uids;
  gids = remembered.gids;
  users = declared.users;
  groups = declared.groups;
}

-- what a merge leaves, of its answer
abbrev pub merged_of : answered.Merged → Merged
merged_of answer = record {
  group = table_of group_name answer.tables.group;
  passwd = table_of passwd_name answer.tables.passwd;
  shadow = table_of shadow_name answer.tables.shadow;
  uids = answer.remembered.uids;
  gids = answer.remembered.gids;
  users = answer.declared.users;
  groups = answer.declared.groups;
  all_users = answer.union.users;
  all_groups = answer.union.groups;
}
