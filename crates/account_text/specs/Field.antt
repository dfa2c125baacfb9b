-- Lines of an account table, their fields, and what a field can say: passwd(5), group(5), shadow(5).
use Rattle.std.specs.Prelude.{ℕ, ◌==◌, ◌&&◌, Bool, not, List, length, filter, Option, None, Some, nat_lt, nat_le, if◌then◌else◌}
use Rattle.std.specs.List.{slice_split, list_any}
use Rattle.std.specs.Str.{all_ascii_digits}
use Rattle.std.specs.Str.Parse.{digits_value}
use Rattle.switch_names.specs.Texts.{is_empty, is_line_feed}
use Rattle.switch_names.specs.Ids.{id_max}

abbrev pub is_colon : ℕ → Bool
is_colon byte = byte == 58

abbrev pub is_comma : ℕ → Bool
is_comma byte = byte == 44

-- what stands between the line feeds of a table
abbrev pub lines : List ℕ → List (List ℕ)
lines text = slice_split is_line_feed text

-- what stands between the colons of a line
abbrev pub fields : List ℕ → List (List ℕ)
fields line = slice_split is_colon line

-- what stands between the commas of a field, but for what is empty
abbrev pub members_of : List ℕ → List (List ℕ)
members_of field = filter (λ name. not (is_empty name)) (slice_split is_comma field)

-- 1 to 10 digits with a value that is an id
abbrev pub is_id : List ℕ → Bool
is_id field = all_ascii_digits field && nat_lt 0 (length field) && nat_le (length field) 10 && nat_le (digits_value 10 field) id_max

-- the id that a field says
abbrev pub id_of : List ℕ → Option ℕ
id_of field = if is_id field then Some (digits_value 10 field) else None

-- a text that can stand in a field: it has no line feed and no colon
abbrev pub is_plain : List ℕ → Bool
is_plain text = not (list_any is_line_feed text) && not (list_any is_colon text)

-- a name that can stand in a field
abbrev pub is_row_name : List ℕ → Bool
is_row_name name = is_plain name && not (is_empty name)

-- a name that can stand among the members of a group
abbrev pub is_member : List ℕ → Bool
is_member name = is_row_name name && not (list_any is_comma name)
