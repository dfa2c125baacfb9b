use Rattle.std.proofs.Common.{◌≡◌, ◌≤◌, drop, length}
use Rattle.account_text.specs.Order.{row_named}
use Rattle.switch_names.specs.Names.{Name}
use Rattle.users_merge.specs.ByName.{found_in}
use Rattle.users_merge.proofs.by_name.ByName.of.Given as goal

-- the rows from this place on are found
abbrev pub invariant-loop-at : goal.invariant-loop-at
invariant-loop-at g l = (l.at ≤ length l.rows) × ((name : Name) → found_in l.by_name name ≡ row_named g.R.Named.name_of (drop l.at l.rows) name)

abbrev pub decreases-loop-at : goal.decreases-loop-at
decreases-loop-at g l = l.at
