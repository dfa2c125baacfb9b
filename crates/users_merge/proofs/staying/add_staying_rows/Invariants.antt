use Rattle.std.proofs.Common.{◌≡◌, ◌++◌, filter, take}
use Rattle.users_merge.specs.Staying.{stays_by}
use Rattle.users_merge.proofs.staying.add_staying_rows.Given as goal

-- the rows so far that stay are added
abbrev pub invariant-loop-row : goal.invariant-loop-row
invariant-loop-row g l = l.rows.items ≡ l.fn.rows.items ++ filter (λ row. stays_by l.staying (g.R.Named.name_of row)) (take l.row-index l.table)
