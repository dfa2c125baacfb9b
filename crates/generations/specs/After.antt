-- The generations that stand after a set of the profile: Nix manual, "Profiles".
use Rattle.std.specs.Prelude.{◌==◌, ◌++◌, ◌^◌, ℕ, zero, suc, List, [], Option, None, Some, option_map, option_to_list, if◌then◌else◌}
use Rattle.generations.specs.declared.gens.Gen.{Gen}
use Rattle.generations.specs.declared.gens.Gens.{Gens}
use Rattle.generations.specs.Places.{generation_at, number_after}
use Rattle.generations.specs.ProfilePart.{has_number}
use Rattle.host_trait.specs.World.{Leaves}
use Rattle.switch_names.specs.Names.{Name}

-- the generations below a bound in ascending order, by what stands for each number
unfoldable pub gens_below : (ℕ → Option (Option Name)) → ℕ → List Gen
gens_below at zero = []
gens_below at (suc n) = gens_below at n ++ option_to_list (option_map (λ target. record { number = n; target = target }) (at n))

-- the generation of a number after a set to a system: the system at the number that it gets, else what stood there
abbrev pub generation_after : Name → Leaves → ℕ → Option (Option Name)
generation_after system leaves n = if n == number_after leaves system then Some (Some system) else generation_at leaves n

-- the generations that stand after a set to a system; the one that the system gets is the current one
unfoldable pub gens_after : Name → Leaves → Gens
gens_after system leaves = record {
  list = gens_below (generation_after system leaves) (2 ^ 32);
  current = if has_number leaves system then Some (number_after leaves system) else None;
}
