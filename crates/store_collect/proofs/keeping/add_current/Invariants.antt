use Rattle.std.proofs.Common.{◌≡◌, ◌++◌, filter, take}
use Rattle.store_collect.specs.Kept.{is_current_of}
use Rattle.store_collect.proofs.keeping.add_current.Given as goal

-- those so far are added
abbrev pub invariant-loop-generation : goal.invariant-loop-generation
invariant-loop-generation l = l.list ≡ l.fn.list ++ filter (is_current_of l.gens) (take l.generation-index l.generations)
