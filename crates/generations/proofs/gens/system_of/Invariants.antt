use Rattle.std.proofs.Common.{◌≡◌, None, take}
use Rattle.generations.specs.Gens.{listed_at}
use Rattle.generations.proofs.gens.system_of.Given as goal

-- no generation so far has the number
abbrev pub invariant-loop-generation : goal.invariant-loop-generation
invariant-loop-generation l = listed_at (take l.generation-index l.generation-items) l.number ≡ None
