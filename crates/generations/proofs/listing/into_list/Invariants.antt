use Rattle.std.proofs.Common.{◌≡◌, ◌++◌}
use Rattle.generations.proofs.Entries.{gens_of}
use Rattle.generations.proofs.listing.into_list.Given as goal

-- the generations so far and those that are left are all
abbrev pub invariant-loop-number : goal.invariant-loop-number
invariant-loop-number l = l.list ++ gens_of l.number-iterator ≡ gens_of l.fn.targets.entries
