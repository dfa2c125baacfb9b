-- A leaf takes its place in one step: rename(2), "there is no point at which another process finds it missing".
use Rattle.std.specs.Prelude.{◌≡◌, ◌≢◌, ◌⊎◌, ◌∷◌, [], ℕ, Bool, false, List, Some, MatchBool, if◌then◌else◌}
use Rattle.std.specs.FinMap.{get, keys}
use Rattle.std.specs.List.{list_any}
use Rattle.host_trait.specs.declared.leaf.LeafKind.{LeafKind}
use Rattle.host_trait.specs.World.{Leaves, WorldState, IsClear, is_in_line, is_path, seen, stage, with_leaf, without_leaf}

-- two paths are different, and neither lies below the other
pub record AreApart (p q : List ℕ) : Type 0 where
  pub other : is_path p q ≡ false
  pub line : is_in_line p q ≡ false

-- no leaf stands above or below the stage or the place
pub record CanPut (at : List ℕ) (w : WorldState) : Type 0 where
  pub stage : IsClear w.leaves stage
  pub place : IsClear w.leaves at

-- the place has its old leaf or the new one, and every other place but the stage is as it was
abbrev pub IsOldOrNew : List ℕ → LeafKind → WorldState → WorldState → Type 0
IsOldOrNew at leaf w m = (seen m ≡ seen w) ⊎ (seen m ≡ seen (with_leaf at leaf w))

-- the place has its old leaf or none, and every other place is as it was
abbrev pub IsOldOrGone : List ℕ → WorldState → WorldState → Type 0
IsOldOrGone at w m = (m ≡ w) ⊎ (m ≡ without_leaf at w)

-- whether the leaf was put, since another one or none stood there
abbrev pub IsPutIfOther : List ℕ → LeafKind → Bool → WorldState → Type 0
IsPutIfOther at leaf put w = MatchBool put (get w.leaves at ≢ Some leaf) (get w.leaves at ≡ Some leaf)

-- what is written where a leaf is put, or isn't
abbrev pub written_if : Bool → List ℕ → List (List ℕ)
written_if put at = if put then at ∷ [] else []

-- whether a leaf stands strictly above or below a path
abbrev pub is_blocked : Leaves → List ℕ → Bool
is_blocked leaves at = list_any (λ q. is_in_line q at) (keys leaves)
