use Rattle.std.proofs.Common.{length}
use Rattle.store_names.proofs.SearchLemmas.{IsSearch}
use Rattle.store_names.proofs.beginnings.add_beginnings.Given as goal

abbrev pub invariant-loop-name : goal.invariant-loop-name
invariant-loop-name l = IsSearch l.fn.names l.fn.text l.fn.found.keys l.found.keys l.left

-- the rest is shorter each time
abbrev pub decreases-loop-name : goal.decreases-loop-name
decreases-loop-name l = length l.left
