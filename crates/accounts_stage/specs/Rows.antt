-- How many rows the tables of accounts have: passwd(5), group(5), shadow(5). The greatest number is this project's own.
use Rattle.std.specs.Prelude.{ℕ, not, List, length, count_by, Option}
use Rattle.std.specs.Option.{option_or}
use Rattle.account_text.specs.declared.tables.Tables.{Tables}
use Rattle.account_text.specs.Field.{lines}
use Rattle.host_trait.specs.World.{Leaves}
use Rattle.leaf_limits.specs.Counts.{past, rows_max}
use Rattle.switch_names.specs.Texts.{is_empty}
use Rattle.switch_parts.specs.declared.refusal.Refusal.{Refusal}
use Rattle.switch_parts.specs.declared.refusal.What.TheVariants.{Rows}
use Rattle.switch_parts.specs.Limits.{too_many}
use Rattle.users_merge.specs.Stored.{Merged}
use Rattle.accounts_stage.specs.declared.reading.TableTexts.{TableTexts}
use Rattle.accounts_stage.specs.Files.{tables_with}
use Rattle.accounts_stage.specs.Standing.{texts_in}

-- how many lines of a table's text aren't empty
abbrev pub lines_of : List ℕ → ℕ
lines_of text = count_by (λ line. not (is_empty line)) (lines text)

-- how many lines the first of three texts has that has too many
abbrev pub texts_past : TableTexts → Option ℕ
texts_past texts =
    option_or (past rows_max (lines_of texts.group))
    (option_or (past rows_max (lines_of texts.passwd)) (past rows_max (lines_of texts.shadow)))

-- the same of the tables that stand
abbrev pub rows_past : Leaves → Option ℕ
rows_past leaves = texts_past (texts_in leaves)

-- the refusal of tables that stand with too many lines, where there is one
abbrev pub rows_too_many : Leaves → Option Refusal
rows_too_many leaves = too_many Rows (rows_past leaves)

-- how many rows the first of the groups and the users has that has too many; shadow has no more than the users
abbrev pub tables_past : Tables → Option ℕ
tables_past tables = option_or (past rows_max (length tables.group)) (past rows_max (length tables.passwd))

-- the same of the tables that a merge leaves
abbrev pub merged_past : Merged → Option ℕ
merged_past m = tables_past (tables_with m)

-- the refusal of a merge that leaves too many rows, where there is one
abbrev pub merged_too_many : Merged → Option Refusal
merged_too_many m = too_many Rows (merged_past m)
