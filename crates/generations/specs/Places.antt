-- Where the generations of the system profile stand: Nix manual, "Profiles".
use Rattle.std.specs.Prelude.{◌≡◌, ◌&&◌, ℕ, zero, suc, ◌+◌, ◌^◌, Bool, false, List, ◌∷◌, ◌++◌, codes, nat_eq, nat_lt, Option, None, Some, IsSome, is_some, option_map, if◌then◌else◌}
use Rattle.std.specs.Cmp.Lexicographic.{pointwise}
use Rattle.std.specs.FinMap.{get}
use Rattle.std.specs.Fmt.{decimal}
use Rattle.switch_names.specs.Path.{slash}
use Rattle.switch_names.specs.SystemName.{named_system}
use Rattle.host_trait.specs.declared.leaf.LeafKind.{LeafKind}
use Rattle.host_trait.specs.declared.leaf.LeafKind.TheVariants.{File, Link}
use Rattle.host_trait.specs.World.{Leaves, WorldState, seen, with_leaf}

-- the folder of the profiles
unfoldable pub profiles : List ℕ
profiles = codes "nix/var/nix/profiles"

-- the profile's link, which names the current generation
unfoldable pub profile : List ℕ
profile = codes "nix/var/nix/profiles/system"

-- the name of a generation's link
abbrev pub link_name : ℕ → List ℕ
link_name n = codes "system-" ++ (decimal n ++ codes "-link")

-- a generation's link, which names its system
unfoldable pub link_path : ℕ → List ℕ
link_path n = codes "nix/var/nix/profiles/" ++ link_name n

-- the target of a link to a system
abbrev pub link_target : List ℕ → List ℕ
link_target system = slash ∷ system

-- generations are numbered from 1 to 4,294,967,295
abbrev pub is_number : ℕ → Bool
is_number n = nat_lt 0 n && nat_lt n (2 ^ 32)

-- the system that a leaf names by its link
abbrev pub target_of : LeafKind → Option (List ℕ)
target_of (File bytes mode uid gid) = None
target_of (Link target) = named_system target

-- the generation of a number where it stands: the system that it names, or none
abbrev pub generation_at : Leaves → ℕ → Option (Option (List ℕ))
generation_at leaves n = if is_number n then option_map target_of (get leaves (link_path n)) else None

-- the greatest number below a bound that passes a test, or 0
unfoldable pub greatest_below : (ℕ → Bool) → ℕ → ℕ
greatest_below test zero = 0
greatest_below test (suc n) = if test n then n else greatest_below test n

-- the number of the highest generation, or 0 where none stands
unfoldable pub highest : Leaves → ℕ
highest leaves = greatest_below (λ n. is_some (generation_at leaves n)) (2 ^ 32)

-- whether a generation stands and names a system
abbrev pub is_of : Option (Option (List ℕ)) → List ℕ → Bool
is_of None system = false
is_of (Some None) system = false
is_of (Some (Some target)) system = pointwise nat_eq target system

-- the number of the generation that a set gives a system: the highest where that names it, else one more
abbrev pub number_after : Leaves → List ℕ → ℕ
number_after leaves system = if is_of (generation_at leaves (highest leaves)) system then highest leaves else highest leaves + 1

-- the world in which a generation's link names a system, where that generation is new
abbrev pub with_generation : List ℕ → ℕ → WorldState → WorldState
with_generation system n w =
    if is_of (generation_at w.leaves (highest w.leaves)) system then w else with_leaf (link_path n) (Link (link_target system)) w

-- the world in which the profile names a generation
abbrev pub with_profile : ℕ → WorldState → WorldState
with_profile n w = with_leaf profile (Link (link_name n)) w

-- the world that a set of a system leaves, but for the stage
abbrev pub set_end : List ℕ → WorldState → WorldState
set_end system w = seen (with_profile (number_after w.leaves system) (with_generation system (number_after w.leaves system) w))

-- the profile's link names this generation, and it stands
pub record IsCurrent (leaves : Leaves) (n : ℕ) : Type 0 where
  pub linked : get leaves profile ≡ Some (Link (link_name n))
  pub stands : IsSome (generation_at leaves n)

-- the profile names this system by its current generation
pub record Names (leaves : Leaves) (system : List ℕ) : Type 0 where
  pub number : ℕ
  pub current : IsCurrent leaves number
  pub named : generation_at leaves number ≡ Some (Some system)
