-- Each moment of putting a farm, leaf by leaf: setup-etc.pl of nixpkgs.
use Rattle.std.specs.Prelude.{◌≡◌, ◌≤◌, ◌⊎◌, ◌++◌, ◌∷◌, [], ℕ, not, List, Option, None, Some, false, filter, length, map, take, true}
use Rattle.switch_names.specs.Names.{IsListOf, Name}
use Rattle.host_trait.specs.declared.leaf.LeafKind.{LeafKind}
use Rattle.host_trait.specs.declared.leaf.LeafKind.TheVariants.{Link}
use Rattle.host_trait.specs.World.{Leaves, WorldState, seen}
use Rattle.tree_put.specs.declared.leaf_put.LeafPut.{LeafPut}
use Rattle.tree_put.specs.Sequence.{IsPutting, put_at, with_puts, without_places}
use Rattle.switch_parts.specs.Part.{IsPartMoment}
use Rattle.etc_manifest.specs.declared.item.Item.{Item}
use Rattle.etc_manifest.specs.declared.item.ItemKind.{ItemKind}
use Rattle.etc_manifest.specs.Manifest.{IsManifest, entry}
use Rattle.etc_manifest.specs.Owners.{OwnerIds}
use Rattle.etc_clean.specs.declared.sorting.Sorted.{Sorted}
use Rattle.etc_clean.specs.CleanList.{clean_leaf, clean_name}
use Rattle.etc_clean.specs.Etc.{Farm, leaf_of, static_name}
use Rattle.etc_clean.specs.Farm.{at, is_blocked, is_gone, placed}
use Rattle.etc_clean.specs.Names.{place}
use Rattle.etc_farm.specs.EtcPart.{items_of}
use Rattle.etc_farm.specs.FarmPart.{CanApply, farm_of, farm_part}
use Rattle.etc_farm.specs.Steps.{IsFirstNames, first_puts, item_put, without_names}

-- the puts of the entries that aren't blocked, in their order
abbrev pub entry_puts : List Item → Leaves → List LeafPut
entry_puts items leaves = map item_put (filter (λ item. not (is_blocked items leaves item.place)) items)

-- what is put last: those, and the last clean list
abbrev pub last_puts : List Item → Leaves → List LeafPut
last_puts items leaves = entry_puts items leaves ++ put_at (place clean_name) (clean_leaf (placed items leaves)) ∷ []

-- the world once the first clean list and the link at `static` are put
abbrev pub begun : List Name → List ℕ → WorldState → WorldState
begun names target w = with_puts (first_puts names target) w

-- the world once what is gone is removed as well
abbrev pub cleared : List Name → List ℕ → List Name → WorldState → WorldState
cleared names target gone w = without_names gone (begun names target w)

-- but for the stage, a moment is the world without the leaves at the first so many of some places
pub record IsClearing (gone : List Name) (w m : WorldState) : Type 0 where
  pub count : ℕ
  pub some : count ≤ length gone
  pub world : seen m ≡ seen (without_places (take count gone) w)

-- a moment stands at a step: at the first puts, at the removals, or at the entries and the last clean list
pub data IsAtStep (farm : Farm) (names gone : List Name) (w m : WorldState) : Type 0 where
  Beginning : IsPutting (first_puts names farm.target) w m → IsAtStep farm names gone w m
  Clearing : IsClearing (map place gone) (begun names farm.target w) m → IsAtStep farm names gone w m
  Ending : IsPutting (last_puts farm.items w.leaves) (cleared names farm.target gone w) m → IsAtStep farm names gone w m

-- each moment of putting a farm: nothing is done yet, or it stands at a step whose first clean list and whose gone names are those of the world before
pub data IsMaking (farm : Farm) (w m : WorldState) : Type 0 where
  Before : m ≡ w → IsMaking farm w m
  Since :
      (names gone : List Name) → IsFirstNames farm.items w.leaves names → IsListOf gone (λ q. is_gone farm.items w.leaves q ≡ true) →
      IsAtStep farm names gone w m → IsMaking farm w m

-- each moment of making /etc what a system wants
abbrev pub IsMakingEtc : Name → OwnerIds → WorldState → WorldState → Type 0
IsMakingEtc system owners w m = IsMaking (farm_of system (items_of system owners w.leaves)) w m

-- each moment of a farm that can be put keeps what the farm looks at, and changes nothing but its places and the stage
abbrev pub MakingLaw : Type 0
MakingLaw =
    (farm : Farm) (found : Sorted) (w m : WorldState) → IsManifest farm.items → CanApply farm found w →
    IsMaking farm w m → IsPartMoment (farm_part farm) w m

-- the leaf of a name below etc at a moment: the one of before, or the one that a step puts there or removes
pub data IsLeafAt (farm : Farm) (w : Leaves) (q : Name) (leaf : Option LeafKind) : Type 0 where
  Old : leaf ≡ at w q → IsLeafAt farm w q leaf
  FixedLink : q ≡ static_name → leaf ≡ Some (Link farm.target) → IsLeafAt farm w q leaf
  FirstList : q ≡ clean_name → (names : List Name) → IsFirstNames farm.items w names → leaf ≡ Some (clean_leaf names) → IsLeafAt farm w q leaf
  LastList : q ≡ clean_name → leaf ≡ Some (clean_leaf (placed farm.items w)) → IsLeafAt farm w q leaf
  Gone : is_gone farm.items w q ≡ true → leaf ≡ None → IsLeafAt farm w q leaf
  Entry : (kind : ItemKind) → entry farm.items q ≡ Some kind → is_blocked farm.items w q ≡ false → leaf ≡ Some (leaf_of q kind) → IsLeafAt farm w q leaf

-- no other leaf stands at a name below etc at any moment
abbrev pub LeavesLaw : Type 0
LeavesLaw = (farm : Farm) (w m : WorldState) → IsManifest farm.items → IsMaking farm w m → (q : Name) → IsLeafAt farm w.leaves q (at m.leaves q)

-- an entry has its leaf of before or its own
abbrev pub EntryLeafLaw : Type 0
EntryLeafLaw =
    (farm : Farm) (w m : WorldState) → IsManifest farm.items → IsMaking farm w m → (q : Name) (kind : ItemKind) → entry farm.items q ≡ Some kind →
    (at m.leaves q ≡ at w.leaves q) ⊎ (at m.leaves q ≡ Some (leaf_of q kind))

-- the link at `static` is the one of before or the farm's: it is never away where it stood
abbrev pub FixedLinkLaw : Type 0
FixedLinkLaw =
    (farm : Farm) (w m : WorldState) → IsManifest farm.items → IsMaking farm w m →
    (at m.leaves static_name ≡ at w.leaves static_name) ⊎ (at m.leaves static_name ≡ Some (Link farm.target))
