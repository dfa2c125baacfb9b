-- What a switch reads of the systems stands in the store, where no switch writes: Nix manual, "Nix Store".
use Rattle.std.specs.Prelude.{◌≡◌, ℕ, true, List, Option, None, Some}
use Rattle.std.specs.FinMap.{get}
use Rattle.host_trait.specs.World.{Leaves}
use Rattle.owed_plan.specs.Systems.{systems_at}
use Rattle.switch_names.specs.Names.{Name}
use Rattle.switch_parts.specs.Store.{is_in_store}

-- the path lies in the store
abbrev pub IsInStore : List ℕ → Type 0
IsInStore path = is_in_store path ≡ true

-- two trees have the same in the store
abbrev pub AreSameInStore : Leaves → Leaves → Type 0
AreSameInStore leaves other = (path : List ℕ) → IsInStore path → get leaves path ≡ get other path

-- the system is none, or lies in the store
abbrev pub IsOldInStore : Option Name → Type 0
IsOldInStore None = Unit {0}
IsOldInStore (Some system) = IsInStore system

-- trees with the same in the store have the same systems
abbrev pub SystemsLaw : Type 0
SystemsLaw =
    (leaves other : Leaves) (old : Option Name) (new : Name) → AreSameInStore leaves other → IsOldInStore old → IsInStore new → systems_at leaves old new ≡ systems_at other old new
