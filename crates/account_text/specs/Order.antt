-- The order of rows in a table that is written: this project's own, with ids as passwd(5) and group(5) have them.
use Rattle.std.specs.Prelude.{◌≡◌, ℕ, List, map, find, filter_map, Option, IsPermutation}
use Rattle.std.specs.Cmp.Lexicographic.{slice_cmp}
use Rattle.std.specs.List.Sorted.{IsStrictlySortedBy}
use Rattle.std.specs.Ordering.{nat_cmp, ordering_then}
use Rattle.std.specs.declared.cmp.Ordering.{Ordering}
use Rattle.switch_names.specs.Names.{Name, is_name}
use Rattle.account_text.specs.declared.group.GroupRow.{GroupRow}
use Rattle.account_text.specs.declared.passwd.PasswdRow.{PasswdRow}
use Rattle.account_text.specs.declared.shadow.ShadowRow.{ShadowRow}
use Rattle.account_text.specs.Shadow.{shadow_name}

-- by id, and then by name
abbrev pub by_id : ℕ × Name → ℕ × Name → Ordering
by_id a b = ordering_then (nat_cmp a.0 b.0) (slice_cmp nat_cmp a.1 b.1)

abbrev pub passwd_key : PasswdRow → ℕ × Name
passwd_key row = (row.uid, row.name)

abbrev pub group_key : GroupRow → ℕ × Name
group_key row = (row.gid, row.name)

-- the first row of a name
abbrev pub row_named : {Row : Type 0} → (Row → Name) → List Row → Name → Option Row
row_named name_of rows name = find (λ row. is_name name (name_of row)) rows

-- the same rows, by id and then by name: each name has the row that it had
pub record IsInOrder {Row : Type 0} (key_of : Row → ℕ × Name) (rows ordered : List Row) : Type 0 where
  pub moved : IsPermutation rows ordered
  pub sorted : IsStrictlySortedBy by_id (map key_of ordered)
  pub named : (name : Name) → row_named (λ row. (key_of row).1) ordered name ≡ row_named (λ row. (key_of row).1) rows name

-- the rows of shadow whose names are in passwd, in the order of passwd
abbrev pub shadow_in_order : List PasswdRow → List ShadowRow → List ShadowRow
shadow_in_order passwd shadow = filter_map (λ row. row_named shadow_name shadow row.name) passwd
