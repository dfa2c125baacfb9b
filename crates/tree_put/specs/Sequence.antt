-- Leaves that are put or removed one after the other: rename(2), unlink(2).
use Rattle.std.specs.Prelude.{◌≡◌, ◌≤◌, ◌∷◌, ◌++◌, ℕ, Bool, false, List, [], length, take}
use Rattle.std.specs.List.{AllByRecursion}
use Rattle.host_trait.specs.declared.leaf.LeafKind.{LeafKind}
use Rattle.host_trait.specs.World.{IsClear, WorldState, is_in_line, seen, stage, with_leaf, without_leaf}
use Rattle.switch_names.specs.Names.{Name}
use Rattle.tree_put.specs.declared.leaf_put.LeafPut.{LeafPut}
use Rattle.tree_put.specs.Put.{AreApart, IsPutIfOther, written_if}

-- a leaf that is put at a place
abbrev pub put_at : Name → LeafKind → LeafPut
put_at at leaf = record { at = at; leaf = leaf }

-- the world after some puts
abbrev pub with_puts : List LeafPut → WorldState → WorldState
with_puts [] w = w
with_puts (one ∷ rest) w = with_puts rest (with_leaf one.at one.leaf w)

-- the world without the leaves at some places
abbrev pub without_places : List Name → WorldState → WorldState
without_places [] w = w
without_places (at ∷ rest) w = without_places rest (without_leaf at w)

-- the places that some puts write, one after the other: none where the leaf of a put stands already
abbrev pub AreWritten : List LeafPut → WorldState → List Name → Type 0
AreWritten [] w places = places ≡ []
AreWritten (one ∷ rest) w places =
    (put : Bool) × (more : List Name) × IsPutIfOther one.at one.leaf put w × (places ≡ written_if put one.at ++ more) × AreWritten rest (with_leaf one.at one.leaf w) more

-- those places are written, and no other
pub record WritesOthers (puts : List LeafPut) (w v : WorldState) : Type 0 where
  pub places : List Name
  pub are : AreWritten puts w places
  pub written : v.written ≡ w.written ++ places

-- but for the stage, a moment is the world after the first so many of some puts
pub record IsPutting (puts : List LeafPut) (w m : WorldState) : Type 0 where
  pub count : ℕ
  pub some : count ≤ length puts
  pub world : seen m ≡ seen (with_puts (take count puts) w)

-- a moment is the world without the leaves at the first so many of some places
pub record IsRemoving (places : List Name) (w m : WorldState) : Type 0 where
  pub count : ℕ
  pub some : count ≤ length places
  pub world : m ≡ without_places (take count places) w

-- the places of puts are apart from the stage, and none lies above or below another
pub record ArePutsApart (puts : List LeafPut) : Type 0 where
  pub stage : AllByRecursion (λ put. AreApart put.at stage) puts
  pub others : AllByRecursion (λ put. AllByRecursion (λ other. is_in_line other.at put.at ≡ false) puts) puts

-- no leaf stands above or below the stage or a place of these puts
pub record CanPutAll (puts : List LeafPut) (w : WorldState) : Type 0 where
  pub stage : IsClear w.leaves stage
  pub places : AllByRecursion (λ put. IsClear w.leaves put.at) puts
