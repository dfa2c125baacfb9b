-- The steps of a collection, one removal after the other: unlink(2), rename(2).
use Rattle.std.specs.Prelude.{◌≡◌, ◌≤◌, ◌++◌, ℕ, List, length, take}
use Rattle.boot_entries.specs.Steps.{IsBootMoment, with_menu}
use Rattle.host_trait.specs.World.{WorldState, seen}
use Rattle.switch_names.specs.Names.{Name}
use Rattle.tree_put.specs.Sequence.{without_places}
use Rattle.store_collect.specs.declared.collection.Collection.{Collection}

-- what is removed after the boot menu is made, in its order: the links, and then the leaves
abbrev pub removals : Collection → List Name
removals collection = collection.links ++ collection.leaves

-- but for the stage, a moment is the world in which the boot menu is made, without the first so many of what is removed
pub record IsDropping (collection : Collection) (w m : WorldState) : Type 0 where
  pub count : ℕ
  pub some : count ≤ length (removals collection)
  pub world : seen m ≡ seen (without_places (take count (removals collection)) (with_menu collection.texts w))

-- a moment of a collection: the boot menu is being made, or it is made, and links and then leaves are being removed
pub data IsCollecting (collection : Collection) (w m : WorldState) : Type 0 where
  Listing : IsBootMoment collection.texts w m → IsCollecting collection w m
  Dropping : IsDropping collection w m → IsCollecting collection w m

-- but for the stage, the world after all steps
abbrev pub IsCollectedBy : Collection → WorldState → WorldState → Type 0
IsCollectedBy collection w v = seen v ≡ seen (without_places (removals collection) (with_menu collection.texts w))
