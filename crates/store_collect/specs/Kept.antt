-- Which generations a collection keeps: nix-env(1), "--delete-generations".
use Rattle.std.specs.Prelude.{◌==◌, ◌++◌, ◌-◌, ℕ, not, Bool, false, List, length, take, drop, filter, map}
use Rattle.std.specs.Option.{option_map_or}
use Rattle.generations.specs.declared.gens.Gen.{Gen}
use Rattle.generations.specs.declared.gens.Gens.{Gens}
use Rattle.generations.specs.Places.{link_path}
use Rattle.switch_names.specs.Names.{Name}

-- the generations but for the last so many
abbrev pub older : ℕ → Gens → List Gen
older keep gens = take (length gens.list - keep) gens.list

-- whether a generation is the current one
abbrev pub is_current_of : Gens → Gen → Bool
is_current_of gens gen = option_map_or (λ n. gen.number == n) gens.current false

-- the generations that are kept: the last so many, and the current one
abbrev pub gens_kept : ℕ → Gens → Gens
gens_kept keep gens = record { list = filter (is_current_of gens) (older keep gens) ++ drop (length gens.list - keep) gens.list; current = gens.current }

-- the links of those that go, by ascending number
abbrev pub links_gone : ℕ → Gens → List Name
links_gone keep gens = map (λ gen. link_path gen.number) (filter (λ gen. not (is_current_of gens gen)) (older keep gens))
