-- What is written quietly: where a leaf stands already, none is put.
use Rattle.std.specs.Prelude.{◌≡◌, ◌≤◌, ◌++◌, ℕ, List, Option, Some, count_by, length, suc}
use Rattle.std.specs.FinMap.{get}
use Rattle.std.specs.List.{AllByRecursion}
use Rattle.host_trait.specs.declared.leaf.LeafKind.{LeafKind}
use Rattle.host_trait.specs.World.{Leaves, WorldState}
use Rattle.switch_names.specs.Names.{Name, is_name}
use Rattle.switch_parts.specs.Leaves.{End}

-- how often a place was written
abbrev pub times : Name → List Name → ℕ
times q places = count_by (is_name q) places

-- a place that gets these leaves on the way and this one at the end, where this one stood, is written at most once for each
-- of them, and not at all where each of them is the one that stood
pub record IsQuietAt (on_the_way : List LeafKind) (end stood : Option LeafKind) (count : ℕ) : Type 0 where
  pub often : count ≤ suc (length on_the_way)
  pub still : end ≡ stood → AllByRecursion (λ leaf. Some leaf ≡ stood) on_the_way → count ≡ 0

-- each place is written so, given the leaves at the beginning
pub record IsQuiet (on_the_way : Leaves → Name → List LeafKind) (end : End) (w v : WorldState) : Type 0 where
  pub places : List Name
  pub written : v.written ≡ w.written ++ places
  pub quiet : (q : Name) → IsQuietAt (on_the_way w.leaves q) (end w.leaves q) (get w.leaves q) (times q places)
