use Rattle.std.proofs.Common.{ℕ, List, ◌++◌, map, take}
use Rattle.users_merge.specs.Taken.{AreTaken}
use Rattle.users_merge.proofs.taken.Taken.take_rows.Given as goal

-- the ids of the rows so far are used
abbrev pub invariant-loop-row : goal.invariant-loop-row
invariant-loop-row g l = (used known : List ℕ) → AreTaken used known l.fn.self → AreTaken (used ++ map g.R.Numbered.id_of (take l.row-index l.rows)) known l.self
