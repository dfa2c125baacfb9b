-- What the worlds on the way of a farm have in common.
use Rattle.std.proofs.Common.{◌≡◌, ◌≢◌, true, false, List, Some}
use Rattle.std.specs.FinMap.{get}
use Rattle.switch_names.specs.Names.{Name, has}
use Rattle.host_trait.specs.World.{Leaves, WorldState, stage}
use Rattle.etc_manifest.specs.declared.item.Item.{Item}
use Rattle.etc_manifest.specs.declared.item.ItemKind.{ItemKind}
use Rattle.etc_manifest.specs.Manifest.{entry}
use Rattle.etc_manifest.specs.Place.{is_reserved}
use Rattle.etc_clean.specs.Etc.{leaf_of, static_name}
use Rattle.etc_clean.specs.Farm.{at, is_blocked, is_entry, is_foreign, is_gone}
use Rattle.etc_farm.specs.FarmPart.{KeepsFarm, owns_farm}

-- each moment keeps what a farm looks at, and nothing changes but its places and the stage
pub record IsFarmMoment (items : List Item) (w m : WorldState) : Type 0 where
  pub keeps : KeepsFarm items w m
  pub leaves : (q : Name) → owns_farm q ≡ false → q ≢ stage → get m.leaves q ≡ get w.leaves q
  pub manager : m.manager ≡ w.manager

-- such a moment, at which the link at `static` is as it was too
pub record IsInnerMoment (items : List Item) (w m : WorldState) : Type 0 where
  pub moment : IsFarmMoment items w m
  pub fixed_link : at m.leaves static_name ≡ at w.leaves static_name

-- a leaf that may go: neither reserved, nor an entry's, nor foreign
pub record IsOwn (items : List Item) (leaves : Leaves) (q : Name) : Type 0 where
  pub free : is_reserved q ≡ false
  pub new : is_entry items q ≡ false
  pub own : is_foreign items leaves q ≡ false

-- only these names are gone
abbrev pub AreGone : List Item → List Name → Leaves → Type 0
AreGone items names leaves = (q : Name) → is_gone items leaves q ≡ true → has names q ≡ true

-- each entry has its leaf, unless it is blocked
abbrev pub ArePut : List Item → Leaves → Type 0
ArePut items leaves = (q : Name) (kind : ItemKind) → entry items q ≡ Some kind → is_blocked items leaves q ≡ false → at leaves q ≡ Some (leaf_of q kind)
