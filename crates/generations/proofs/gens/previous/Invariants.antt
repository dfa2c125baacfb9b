use Rattle.std.proofs.Common.{◌≡◌, Some, take}
use Rattle.generations.specs.Gens.{previous_in}
use Rattle.generations.proofs.gens.previous.Given as goal

-- the previous one among the generations so far
abbrev pub invariant-loop-generation : goal.invariant-loop-generation
invariant-loop-generation l = l.latest ≡ previous_in (take l.generation-index l.generation-items) (Some l.current)
