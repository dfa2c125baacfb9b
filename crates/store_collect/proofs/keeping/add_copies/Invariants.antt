use Rattle.std.proofs.Common.{◌≡◌, ◌++◌, take}
use Rattle.store_collect.proofs.keeping.add_copies.Given as goal

-- those so far are added
abbrev pub invariant-loop-generation : goal.invariant-loop-generation
invariant-loop-generation l = l.list ≡ l.fn.list ++ take l.generation-index l.generations
