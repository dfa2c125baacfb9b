-- Which store paths are live: Nix manual, "Garbage Collector Roots"; nix-store(1), "--gc" and "--query --references".
use Rattle.std.specs.Prelude.{◌≡◌, ◌≢◌, ◌&&◌, ◌∷◌, not, Bool, true, ℕ, List, None, Some, nat_eq}
use Rattle.std.specs.FinMap.{get}
use Rattle.std.specs.List.{starts_with}
use Rattle.host_trait.specs.declared.leaf.LeafKind.{LeafKind}
use Rattle.host_trait.specs.declared.leaf.LeafKind.TheVariants.{File, Link}
use Rattle.host_trait.specs.World.{Leaves, WorldState, stage}
use Rattle.store_names.specs.Occurs.{Stands}
use Rattle.switch_names.specs.Names.{Name}
use Rattle.switch_names.specs.Path.{slash}
use Rattle.switch_names.specs.SystemName.{store_folder, system_fault}
use Rattle.store_live.specs.StorePaths.{IsStored, is_at}

-- what a file contains, or where a link leads
abbrev pub text_of : LeafKind → List ℕ
text_of (File bytes mode uid gid) = bytes
text_of (Link target) = target

-- a link counts at a place outside the store that isn't passed over
abbrev pub counts : (Name → Bool) → Name → Bool
counts skips q = not (starts_with nat_eq q store_folder) && not (skips q)

-- A store path is a root where its bytes stand in what the manager has loaded, or in the target of a link that counts.
-- So is one that is no system's.
pub data IsRoot (skips : Name → Bool) (w : WorldState) (x : Name) : Type 0 where
  Loaded : Stands x w.manager.loaded → IsRoot skips w x
  Linked : (q : Name) (target : List ℕ) → q ≢ stage → counts skips q ≡ true → get w.leaves q ≡ Some (Link target) → Stands x target → IsRoot skips w x
  Foreign : system_fault x ≢ None → IsRoot skips w x

-- a store path refers to another: a slash and the bytes of that one stand in a leaf at it or below
pub record Refers (leaves : Leaves) (x y : Name) : Type 0 where
  pub at : Name
  pub inside : is_at x at ≡ true
  pub leaf : LeafKind
  pub stands : get leaves at ≡ Some leaf
  pub named : Stands (slash ∷ y) (text_of leaf)

-- the least set that has the roots and what its members refer to
pub data Live (skips : Name → Bool) (w : WorldState) : Name → Type 0 where
  FromRoot : (x : Name) → IsStored w.leaves x → IsRoot skips w x → Live skips w x
  FromReference : (x by : Name) → Live skips w by → IsStored w.leaves x → Refers w.leaves by x → Live skips w x

-- a store path that no root reaches
pub record IsDead (skips : Name → Bool) (w : WorldState) (x : Name) : Type 0 where
  pub stored : IsStored w.leaves x
  pub unreached : Live skips w x → ⊥
