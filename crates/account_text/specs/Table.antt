-- Tables of rows that are found by name: passwd(5), group(5), shadow(5).
use Rattle.std.specs.Prelude.{◌≡◌, ℕ, ◌+◌, ◌&&◌, Bool, true, not, List, [], ◌∷◌, ◌++◌, map, filter, min, position, Option, None, is_none, option_map, if◌then◌else◌}
use Rattle.std.specs.List.{list_all, filter_map, flat_map}
use Rattle.std.specs.Str.{is_utf8}
use Rattle.switch_names.specs.Names.{Name, has, is_name}
use Rattle.switch_names.specs.Texts.{is_empty}
use Rattle.account_text.specs.Field.{lines, fields}

-- the row that a line is, where its fields are those of one: a line that isn't UTF-8 is no row
abbrev pub row_in : {Row : Type 0} → (List (List ℕ) → Option Row) → List ℕ → Option Row
row_in row_of line = if is_utf8 line then row_of (fields line) else None

-- of rows with one name the first stands
abbrev pub firsts : {Row : Type 0} → (Row → Name) → List Row → List Row
firsts name_of [] = []
firsts name_of (row ∷ rest) = row ∷ filter (λ other. not (is_name (name_of row) (name_of other))) (firsts name_of rest)

-- the rows of a table, in its order
abbrev pub rows_of : {Row : Type 0} → (List (List ℕ) → Option Row) → (Row → Name) → List ℕ → List Row
rows_of row_of name_of text = firsts name_of (filter_map (row_in row_of) (lines text))

-- a line that isn't empty and is no row
abbrev pub is_wrong : {Row : Type 0} → (List (List ℕ) → Option Row) → List ℕ → Bool
is_wrong row_of line = not (is_empty line) && is_none (row_in row_of line)

-- the number of the first line that is no row, counted from 1; none is greater than 4,294,967,295
abbrev pub wrong_line : {Row : Type 0} → (List (List ℕ) → Option Row) → List ℕ → Option ℕ
wrong_line row_of text = option_map (λ at. min (at + 1) 4294967295) (position (is_wrong row_of) (lines text))

-- a text is a table of just these rows
pub record IsTableOf {Row : Type 0} (row_of : List (List ℕ) → Option Row) (name_of : Row → Name) (text : List ℕ) (rows : List Row) : Type 0 where
  pub complete : wrong_line row_of text ≡ None
  pub exact : rows ≡ rows_of row_of name_of text

-- no name stands twice
abbrev pub are_distinct : List Name → Bool
are_distinct [] = true
are_distinct (name ∷ names) = not (has names name) && are_distinct names

-- rows that can be written: each is sound, and no two have one name
pub record IsSound {Row : Type 0} (is_sound : Row → Bool) (name_of : Row → Name) (rows : List Row) : Type 0 where
  pub each : list_all is_sound rows ≡ true
  pub names : are_distinct (map name_of rows) ≡ true

-- a table as it is written: one row a line
abbrev pub table_text : {Row : Type 0} → (Row → List ℕ) → List Row → List ℕ
table_text line_of rows = flat_map (λ row. line_of row ++ 10 ∷ []) rows
