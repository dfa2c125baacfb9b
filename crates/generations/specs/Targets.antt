-- The targets of generations by number, as they are read of a world.
use Rattle.std.specs.Prelude.{◌≡◌, ◌==◌, ℕ, true, List, Option, None, Some, IsSome, if◌then◌else◌}
use Rattle.std.specs.BTreeMap.{BTreeMap, get}
use Rattle.std.specs.List.{list_any}
use Rattle.std.specs.Ordering.{nat_cmp}
use Rattle.host_trait.specs.declared.leaf.LeafKind.{LeafKind}
use Rattle.host_trait.specs.declared.leaf.LeafKind.TheVariants.{Link}
use Rattle.host_trait.specs.World.{Leaves, is_path}
use Rattle.generations.specs.declared.gens.Gen.{Gen}
use Rattle.generations.specs.Places.{generation_at, link_name, link_path}

-- targets by number
abbrev pub Targets : Type 0
Targets = BTreeMap ℕ (Option (List ℕ))

-- the target of a number
abbrev pub target_in : Targets → ℕ → Option (Option (List ℕ))
target_in targets n = get nat_cmp targets n

-- the targets of the generations that stand
pub record AreTargetsOf (leaves : Leaves) (targets : Targets) : Type 0 where
  pub exact : (n : ℕ) → target_in targets n ≡ generation_at leaves n

-- the targets of those whose links have these paths, among which others may stand
pub record AreTargetsAt (leaves : Leaves) (paths : List (List ℕ)) (targets : Targets) : Type 0 where
  pub stands : (n : ℕ) → IsSome (target_in targets n) → target_in targets n ≡ generation_at leaves n
  pub all : (n : ℕ) → list_any (is_path (link_path n)) paths ≡ true → target_in targets n ≡ generation_at leaves n

-- what stands at a path: the generation whose link has it, or none
abbrev pub IsGenAt : Leaves → List ℕ → Option Gen → Type 0
IsGenAt leaves path None = (n : ℕ) → path ≡ link_path n → generation_at leaves n ≡ None
IsGenAt leaves path (Some gen) = (path ≡ link_path gen.number) × (generation_at leaves gen.number ≡ Some gen.target)

-- the target of a number after a generation is put
abbrev pub target_with : Option Gen → Targets → ℕ → Option (Option (List ℕ))
target_with None targets n = target_in targets n
target_with (Some gen) targets n = if gen.number == n then Some gen.target else target_in targets n

-- the leaf of a link to a generation, where it stands
abbrev pub link_to : ℕ → Option LeafKind
link_to n = Some (Link (link_name n))
