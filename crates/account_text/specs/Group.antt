-- Rows of the groups: group(5).
use Rattle.std.specs.Prelude.{ℕ, ◌&&◌, Bool, nat_le, List, [], ◌∷◌, decimal, Option, None, option_map, if◌then◌else◌}
use Rattle.std.specs.List.{join_with_byte, list_all}
use Rattle.switch_names.specs.Names.{Name}
use Rattle.account_text.specs.declared.group.GroupRow.{GroupRow}
use Rattle.switch_names.specs.Texts.{is_empty}
use Rattle.switch_names.specs.Ids.{id_max}
use Rattle.account_text.specs.Field.{id_of, members_of, is_plain, is_row_name, is_member}
use Rattle.account_text.specs.Table.{IsTableOf, IsSound, table_text}

-- the row of four fields, if the first isn't empty and the third is an id
abbrev pub group_row : List (List ℕ) → Option GroupRow
group_row (name ∷ password ∷ gid ∷ members ∷ []) =
    if is_empty name then None
    else option_map (λ gid. record { name = name; password = password; gid = gid; members = members_of members }) (id_of gid)
group_row _ = None

abbrev pub group_name : GroupRow → Name
group_name row = row.name

-- the line of a row
abbrev pub group_line : GroupRow → List ℕ
group_line row = join_with_byte 58 (row.name ∷ row.password ∷ decimal row.gid ∷ join_with_byte 44 row.members ∷ [])

-- a row that can be written
abbrev pub is_group_row : GroupRow → Bool
is_group_row row = is_row_name row.name && is_plain row.password && nat_le row.gid id_max && list_all is_member row.members

-- a text is the group table of these rows
abbrev pub IsGroup : List ℕ → List GroupRow → Type 0
IsGroup = IsTableOf group_row group_name

-- a group table that can be written
abbrev pub IsSoundGroup : List GroupRow → Type 0
IsSoundGroup = IsSound is_group_row group_name

abbrev pub group_text : List GroupRow → List ℕ
group_text = table_text group_line
