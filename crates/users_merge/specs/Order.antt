-- The rows of merged tables as they are written: this project's own order, with ids as passwd(5) and group(5) have them.
use Rattle.std.specs.Prelude.{◌≡◌, ℕ, List, map}
use Rattle.std.specs.FinMap.{from_entries, get, values}
use Rattle.std.specs.List.{filter_map}
use Rattle.switch_names.specs.Names.{Name}
use Rattle.account_text.specs.declared.group.GroupRow.{GroupRow}
use Rattle.account_text.specs.declared.passwd.PasswdRow.{PasswdRow}
use Rattle.account_text.specs.declared.shadow.ShadowRow.{ShadowRow}
use Rattle.account_text.specs.Order.{by_id, group_key, passwd_key}
use Rattle.users_merge.specs.Stored.{Merged, Table, merged_of}
use Rattle.users_merge.specs.declared.merged.Merged as answered

-- the rows of a table by id, and then by name
unfoldable pub in_order : {Row : Type 0} → (Row → ℕ × Name) → Table Row → List Row
in_order key_of table = values (from_entries {R = by_id} (map (λ row. (key_of row, row)) (values table)))

-- the rows of groups, as they are written
abbrev pub group_rows : Merged → List GroupRow
group_rows m = in_order group_key m.group

-- the rows of users, as they are written
abbrev pub passwd_rows : Merged → List PasswdRow
passwd_rows m = in_order passwd_key m.passwd

-- the shadow rows, in the order of passwd
abbrev pub shadow_rows : Merged → List ShadowRow
shadow_rows m = filter_map (λ row. get m.shadow row.name) (passwd_rows m)

-- the tables of an answer have their rows in order
pub record AreInOrder (answer : answered.Merged) : Type 0 where
  pub group : answer.tables.group ≡ group_rows (merged_of answer)
  pub passwd : answer.tables.passwd ≡ passwd_rows (merged_of answer)
  pub shadow : answer.tables.shadow ≡ shadow_rows (merged_of answer)
