-- Lists of generations in ascending order.
use Rattle.std.specs.Prelude.{◌≡◌, ◌&&◌, ◌==◌, ℕ, ◌+◌, ◌-◌, ◌^◌, length, slice_get, Bool, List, [], ◌∷◌, nat_lt, Option, None, Some, IfSome, is_some, option_map, map, filter, if◌then◌else◌}
use Rattle.std.specs.List.{find}
use Rattle.std.specs.List.Sorted.{IsStrictlySortedBy}
use Rattle.std.specs.Ordering.{nat_cmp}
use Rattle.host_trait.specs.World.{Leaves}
use Rattle.generations.specs.declared.gens.Gen.{Gen}
use Rattle.generations.specs.declared.gens.Gens.{Gens}
use Rattle.generations.specs.Places.{generation_at, is_of, IsCurrent}

-- the target of the generation of a number, where the list has that
abbrev pub listed_at : List Gen → ℕ → Option (Option (List ℕ))
listed_at list n = option_map (λ gen. gen.target) (find (λ gen. gen.number == n) list)

-- the number after the highest generation: its own where it names the system, else the next where there is one
abbrev pub number_from : Option Gen → List ℕ → Option ℕ
number_from None system = Some 1
number_from (Some gen) system =
    if is_of (Some gen.target) system then Some gen.number
    else if nat_lt (gen.number + 1) (2 ^ 32) then Some (gen.number + 1) else None

-- the number that a set gives a system
abbrev pub number_for_in : List Gen → List ℕ → Option ℕ
number_for_in list system = number_from (slice_get list (length list - 1)) system

-- whether the highest generation names a system
abbrev pub is_highest_of : List Gen → List ℕ → Bool
is_highest_of list system = is_of (option_map (λ gen. gen.target) (slice_get list (length list - 1))) system

-- the last number of a list
abbrev pub last_number : List Gen → Option ℕ
last_number [] = None
last_number (gen ∷ []) = Some gen.number
last_number (gen ∷ next ∷ rest) = last_number (next ∷ rest)

-- the greatest number below a given one that has a target
abbrev pub previous_in : List Gen → Option ℕ → Option ℕ
previous_in list None = None
previous_in list (Some current) = last_number (filter (λ gen. nat_lt gen.number current && is_some gen.target) list)

-- the generations that stand in a world, ascending, and the current one
pub record IsGensOf (leaves : Leaves) (gens : Gens) : Type 0 where
  pub rising : IsStrictlySortedBy nat_cmp (map (λ gen. gen.number) gens.list)
  pub exact : (n : ℕ) → listed_at gens.list n ≡ generation_at leaves n
  pub current : IfSome gens.current (IsCurrent leaves)
  pub only_current : (n : ℕ) → IsCurrent leaves n → gens.current ≡ Some n
