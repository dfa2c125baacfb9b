use Rattle.std.proofs.Common.{ℕ, List, ◌++◌, map, take}
use Rattle.users_merge.specs.Taken.{AreTaken}
use Rattle.users_merge.proofs.taken.Taken.mark_known.Given as goal

-- the ids of the rows so far are marked
abbrev pub invariant-loop-row : goal.invariant-loop-row
invariant-loop-row l = (used marked : List ℕ) → AreTaken used marked l.fn.self → AreTaken used (marked ++ map (λ row. row.id) (take l.row-index l.row-items)) l.self
