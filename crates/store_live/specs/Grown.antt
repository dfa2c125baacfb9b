-- Sets that grow while a world is read.
use Rattle.std.specs.Prelude.{◌≡◌, ◌⊎◌, ◌↔◌, ◌∷◌, ◌&&◌, not, IsTrue, ℕ, List, [], Bool, true, false, Option, None, Some, is_none, option_map}
use Rattle.std.specs.FinMap.{get}
use Rattle.host_trait.specs.declared.leaf.LeafKind.{LeafKind}
use Rattle.host_trait.specs.declared.leaf.LeafKind.TheVariants.{File, Link}
use Rattle.host_trait.specs.World.{Leaves, listed}
use Rattle.store_names.specs.Occurs.{Occurs}
use Rattle.switch_names.specs.Names.{Name, has}
use Rattle.switch_names.specs.Path.{slash}
use Rattle.switch_names.specs.SystemName.{system_fault}
use Rattle.store_live.specs.Live.{counts, text_of}
use Rattle.store_live.specs.StorePaths.{is_at, is_store_path}

-- the names of a list are exactly those of which P holds
abbrev pub AreAll : List Name → (Name → Type 0) → Type 0
AreAll names P = (x : Name) → IsTrue (has names x) ↔ P x

-- exactly those of which P holds have come to a list
abbrev pub IsGrown : List Name → List Name → (Name → Type 0) → Type 0
IsGrown old new P = AreAll new (λ x. IsTrue (has old x) ⊎ P x)

-- a place lies in a store path
pub record IsPathOf (q x : Name) : Type 0 where
  pub path : is_store_path x ≡ true
  pub inside : is_at x q ≡ true

-- where the leaf at a place leads, where it is a link
abbrev pub link_target : Option LeafKind → Option (List ℕ)
link_target None = None
link_target (Some (File bytes mode uid gid)) = None
link_target (Some (Link target)) = Some target

-- the text of the leaf at a place
abbrev pub leaf_text : Option LeafKind → Option (List ℕ)
leaf_text leaf = option_map text_of leaf

-- one of these store paths stands in a text, with these bytes before it
pub record IsIn (names : List Name) (front : List ℕ) (text : Option (List ℕ)) (x : Name) : Type 0 where
  pub bytes : List ℕ
  pub there : text ≡ Some bytes
  pub occurs : Occurs names front bytes x

-- a link that counts stands at a place, and names one of these store paths
pub record IsLinkedAt (skips : Name → Bool) (leaves : Leaves) (names : List Name) (q x : Name) : Type 0 where
  pub counted : counts skips q ≡ true
  pub named : IsIn names [] (link_target (get leaves q)) x

-- the leaf at a place refers to one of these store paths
abbrev pub IsReferredAt : Leaves → List Name → Name → Name → Type 0
IsReferredAt leaves names q x = IsIn names (slash ∷ []) (leaf_text (get leaves q)) x

-- a place is listed at or below a path
abbrev pub IsListedAt : Leaves → Name → Name → Type 0
IsListedAt leaves under q = IsTrue (has (listed under leaves) q)

-- a store path is this one, and no system's
pub record IsForeign (q x : Name) : Type 0 where
  pub same : x ≡ q
  pub foreign : is_none (system_fault x) ≡ false

-- P holds of some place of a list and a name
pub record AtSome (places : List Name) (P : Name → Name → Type 0) (x : Name) : Type 0 where
  pub place : Name
  pub listed : IsTrue (has places place)
  pub holds : P place x

-- a store path is a system's, and isn't among the live ones
abbrev pub is_dead_by : List Name → Name → Bool
is_dead_by live x = not (has live x) && is_none (system_fault x)
