use Rattle.std.proofs.Common.{◌≡◌}
use Rattle.account_text.specs.Table.{firsts}
use Rattle.account_text.specs.Reading.{AreNamesOf}
use Rattle.account_text.proofs.firsts.first_rows.Given as goal

-- of the rows so far the first of each name
abbrev pub invariant-loop-row : goal.invariant-loop-row
invariant-loop-row g l =
    (l.kept.rows.items ≡ firsts g.R.Row.name_of l.yielded) × AreNamesOf g.R.Row.name_of l.kept.rows.items l.kept.names.keys
