-- The list of the generations as text: nix-env(1), "--list-generations".
use Rattle.std.specs.Prelude.{ℕ, ◌++◌, ◌∷◌, ◌==◌, List, [], Option, None, Some, codes, if◌then◌else◌}
use Rattle.std.specs.Fmt.{decimal}
use Rattle.std.specs.List.{flat_map}
use Rattle.generations.specs.declared.gens.Gen.{Gen}
use Rattle.generations.specs.declared.gens.Gens.{Gens}
use Rattle.switch_names.specs.Names.{Name}

-- the system that a generation names, or that it names none
abbrev pub target_text : Option Name → List ℕ
target_text None = codes "-"
target_text (Some system) = system

-- the mark of the current generation
abbrev pub mark : Option ℕ → ℕ → List ℕ
mark None number = []
mark (Some current) number = if current == number then codes " current" else []

-- the line of a generation: its number, the system that it names, and whether it is the current one
abbrev pub listed_line : Option ℕ → Gen → List ℕ
listed_line current gen = decimal gen.number ++ (32 ∷ (target_text gen.target ++ (mark current gen.number ++ 10 ∷ [])))

-- a line for each generation, in their order
abbrev pub generation_lines : Gens → List ℕ
generation_lines gens = flat_map (listed_line gens.current) gens.list
