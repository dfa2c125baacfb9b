use Rattle.std.proofs.Common.{◌≡◌, ◌++◌, not, filter, map, take}
use Rattle.generations.specs.Places.{link_path}
use Rattle.store_collect.specs.Kept.{is_current_of}
use Rattle.store_collect.proofs.keeping.add_links.Given as goal

-- those so far are added
abbrev pub invariant-loop-generation : goal.invariant-loop-generation
invariant-loop-generation l = l.links ≡ l.fn.links ++ map (λ gen. link_path gen.number) (filter (λ gen. not (is_current_of l.gens gen)) (take l.generation-index l.generations))
