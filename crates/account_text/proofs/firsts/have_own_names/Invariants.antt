use Rattle.std.proofs.Common.{◌≡◌, map, take}
use Rattle.account_text.proofs.firsts.have_own_names.Given as goal

-- the rows so far are lent
abbrev pub invariant-loop-row : goal.invariant-loop-row
invariant-loop-row g l = map (λ row. row.now) l.sorted.items ≡ take l.row-index l.rows
