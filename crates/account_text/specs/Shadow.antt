-- Rows of the shadowed passwords: shadow(5).
use Rattle.std.specs.Prelude.{ℕ, ◌==◌, ◌&&◌, Bool, not, List, [], ◌∷◌, length, Option, None, Some, if◌then◌else◌}
use Rattle.std.specs.List.{join_with_byte, list_any, count_by}
use Rattle.switch_names.specs.Names.{Name}
use Rattle.account_text.specs.declared.shadow.ShadowRow.{ShadowRow}
use Rattle.switch_names.specs.Texts.{is_empty, is_line_feed}
use Rattle.account_text.specs.Field.{is_colon, is_plain, is_row_name}
use Rattle.account_text.specs.Table.{IsTableOf, IsSound, table_text}

-- the row of nine fields, if the first isn't empty: the last seven stay as they are, with their colons
abbrev pub shadow_row : List (List ℕ) → Option ShadowRow
shadow_row (name ∷ password ∷ rest) =
    if not (is_empty name) && length rest == 7 then Some (record { name = name; password = password; rest = join_with_byte 58 rest }) else None
shadow_row _ = None

abbrev pub shadow_name : ShadowRow → Name
shadow_name row = row.name

-- the line of a row
abbrev pub shadow_line : ShadowRow → List ℕ
shadow_line row = join_with_byte 58 (row.name ∷ row.password ∷ row.rest ∷ [])

-- a row that can be written: the rest has its six colons
abbrev pub is_shadow_row : ShadowRow → Bool
is_shadow_row row =
    is_row_name row.name && is_plain row.password && not (list_any is_line_feed row.rest) && count_by is_colon row.rest == 6

-- a text is the shadow table of these rows
abbrev pub IsShadow : List ℕ → List ShadowRow → Type 0
IsShadow = IsTableOf shadow_row shadow_name

-- a shadow table that can be written
abbrev pub IsSoundShadow : List ShadowRow → Type 0
IsSoundShadow = IsSound is_shadow_row shadow_name

abbrev pub shadow_text : List ShadowRow → List ℕ
shadow_text = table_text shadow_line
