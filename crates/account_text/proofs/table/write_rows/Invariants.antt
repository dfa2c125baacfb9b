use Rattle.std.proofs.Common.{◌≡◌, true, take}
use Rattle.std.specs.List.{list_all}
use Rattle.std.specs.Str.{is_utf8}
use Rattle.account_text.specs.Table.{table_text}
use Rattle.account_text.proofs.table.write_rows.Given as goal

-- the rows so far are written
abbrev pub invariant-loop-row : goal.invariant-loop-row
invariant-loop-row g l =
    (l.text.items ≡ table_text g.R.Row.line_of (take l.row-index l.rows)) × (list_all (λ row. is_utf8 (g.R.Row.line_of row)) (take l.row-index l.rows) ≡ true)
