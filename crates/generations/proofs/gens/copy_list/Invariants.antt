use Rattle.std.proofs.Common.{◌≡◌, take}
use Rattle.generations.proofs.gens.copy_list.Given as goal

-- the generations so far are copied
abbrev pub invariant-loop-generation : goal.invariant-loop-generation
invariant-loop-generation l = l.copied ≡ take l.generation-index l.list
