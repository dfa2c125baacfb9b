use Rattle.account_text.specs.Reading.{left_len, lines_left}
use Rattle.account_text.proofs.LineLemmas.{IsReadUpTo}
use Rattle.account_text.proofs.table.all_rows.Given as goal

-- these lines are left
abbrev pub invariant-loop-left : goal.invariant-loop-left
invariant-loop-left g l = IsReadUpTo g.R.Row.row_of l.fn.text l.rows.items l.number (lines_left l.left)

abbrev pub decreases-loop-left : goal.decreases-loop-left
decreases-loop-left g l = left_len l.left
