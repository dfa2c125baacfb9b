-- Rows of the user accounts: passwd(5).
use Rattle.std.specs.Prelude.{ℕ, ◌&&◌, Bool, nat_le, List, [], ◌∷◌, decimal, Option, None, option_map, option_and_then, if◌then◌else◌}
use Rattle.std.specs.List.{join_with_byte}
use Rattle.switch_names.specs.Names.{Name}
use Rattle.account_text.specs.declared.passwd.PasswdRow.{PasswdRow}
use Rattle.switch_names.specs.Texts.{is_empty}
use Rattle.switch_names.specs.Ids.{id_max}
use Rattle.account_text.specs.Field.{id_of, is_plain, is_row_name}
use Rattle.account_text.specs.Table.{IsTableOf, IsSound, table_text}

-- the row of seven fields, if the first isn't empty and the third and the fourth are ids
abbrev pub passwd_row : List (List ℕ) → Option PasswdRow
passwd_row (name ∷ password ∷ uid ∷ gid ∷ gecos ∷ home ∷ shell ∷ []) =
    if is_empty name then None
    else option_and_then (λ uid. option_map (λ gid. record { name = name; password = password; uid = uid; gid = gid; gecos = gecos; home = home; shell = shell }) (id_of gid)) (id_of uid)
passwd_row _ = None

abbrev pub passwd_name : PasswdRow → Name
passwd_name row = row.name

-- the line of a row
abbrev pub passwd_line : PasswdRow → List ℕ
passwd_line row =
    join_with_byte 58 (row.name ∷ row.password ∷ decimal row.uid ∷ decimal row.gid ∷ row.gecos ∷ row.home ∷ row.shell ∷ [])

-- a row that can be written
abbrev pub is_passwd_row : PasswdRow → Bool
is_passwd_row row =
    is_row_name row.name && is_plain row.password && nat_le row.uid id_max && nat_le row.gid id_max
    && is_plain row.gecos && is_plain row.home && is_plain row.shell

-- a text is the passwd table of these rows
abbrev pub IsPasswd : List ℕ → List PasswdRow → Type 0
IsPasswd = IsTableOf passwd_row passwd_name

-- a passwd table that can be written
abbrev pub IsSoundPasswd : List PasswdRow → Type 0
IsSoundPasswd = IsSound is_passwd_row passwd_name

abbrev pub passwd_text : List PasswdRow → List ℕ
passwd_text = table_text passwd_line
