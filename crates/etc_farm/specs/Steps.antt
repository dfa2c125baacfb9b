-- What each step of putting a farm needs and leaves: setup-etc.pl of nixpkgs.
use Rattle.std.specs.Prelude.{◌≡◌, ◌&&◌, ◌||◌, ◌∷◌, [], ℕ, not, true, false, List, map, filter, None}
use Rattle.std.specs.List.Sorted.{IsStrictlySortedBy}
use Rattle.switch_names.specs.Names.{IsListOf, Name, has}
use Rattle.host_trait.specs.declared.leaf.LeafKind.TheVariants.{Link}
use Rattle.host_trait.specs.World.{Leaves, WorldState, bytes_cmp}
use Rattle.tree_put.specs.declared.leaf_put.LeafPut.{LeafPut}
use Rattle.tree_put.specs.Sequence.{put_at, without_places}
use Rattle.tree_put.specs.WrittenPlace.{in_the_way}
use Rattle.etc_manifest.specs.declared.item.Item.{Item}
use Rattle.etc_manifest.specs.Manifest.{AreApart, IsManifest, places}
use Rattle.etc_clean.specs.declared.sorting.Sorted.{Sorted}
use Rattle.etc_clean.specs.CleanList.{AreCleanNames, clean_leaf, clean_name, clean_of}
use Rattle.etc_clean.specs.Etc.{Farm, leaf_of, static_name}
use Rattle.etc_clean.specs.Farm.{is_blocked, is_entry, is_gone, is_made, placed}
use Rattle.etc_clean.specs.Names.{place}
use Rattle.etc_clean.specs.Obsolete.{IsSortedOf}
use Rattle.etc_clean.specs.Standing.{is_standing}
use Rattle.etc_farm.specs.FarmPart.{fixed_places}
use Rattle.etc_farm.specs.Prepared.{PreparedPuts}

-- nothing is gone
abbrev pub IsNoneGone : List Item → Leaves → Type 0
IsNoneGone items leaves = (q : Name) → is_gone items leaves q ≡ false

-- each copy that is put is on the clean list
abbrev pub AllListed : List Item → Leaves → Type 0
AllListed items leaves = (q : Name) → has (placed items leaves) q ≡ true → has (clean_of leaves) q ≡ true

-- the names of the copied and direct entries, but for these
abbrev pub placed_but : List Name → List Item → List Name
placed_but blocked items = map (λ item. item.place) (filter (λ item. is_made item.kind && not (has blocked item.place)) items)

-- the put of an entry
abbrev pub item_put : Item → LeafPut
item_put item = put_at (place item.place) (leaf_of item.place item.kind)

-- the puts of the entries, but for those at these names
abbrev pub puts_but : List Name → List Item → List LeafPut
puts_but blocked items = map item_put (filter (λ item. not (has blocked item.place)) items)

-- the names of the first clean list, in byte order and once: those of the list that stands, and of the copied and direct entries that aren't blocked; they are read as they are written
pub record IsFirstNames (items : List Item) (leaves : Leaves) (names : List Name) : Type 0 where
  pub list : IsListOf names (λ q. (has (clean_of leaves) q || has (placed items leaves) q) ≡ true)
  pub clean : AreCleanNames names

-- the world without the leaves at these names
abbrev pub without_names : List Name → WorldState → WorldState
without_names names w = without_places (map place names) w

-- entries may be put: they are apart, nothing is gone or in the way, what is blocked is known, and each copy is listed
pub record CanPutEntries (items : List Item) (blocked : List Name) (w : WorldState) : Type 0 where
  pub manifest : IsManifest items
  pub apart : AreApart (places items)
  pub way : in_the_way fixed_places w.leaves ≡ None
  pub sorted : IsStrictlySortedBy bytes_cmp blocked
  pub blocked_are : (q : Name) → is_entry items q ≡ true → has blocked q ≡ is_blocked items w.leaves q
  pub none_gone : IsNoneGone items w.leaves
  pub listed : AllListed items w.leaves

-- these entries have their leaf already
pub record AreStanding (items : List Item) (names : List Name) (w : WorldState) : Type 0 where
  pub sorted : IsStrictlySortedBy bytes_cmp names
  pub stand : (q : Name) → has names q ≡ true → is_standing items w.leaves q ≡ true

-- what is put first: a clean list of these names, and the link at `static`
abbrev pub first_puts : List Name → List ℕ → List LeafPut
first_puts names target = put_at (place clean_name) (clean_leaf names) ∷ put_at (place static_name) (Link target) ∷ []

-- what is put and removed for a farm beside its entries, wherever the same is gone and blocked
pub record IsPrepared (farm : Farm) (found : Sorted) (prepared : PreparedPuts) : Type 0 where
  pub manifest : IsManifest farm.items
  pub names : List Name
  pub first : prepared.first ≡ first_puts names farm.target
  pub names_are : (leaves : Leaves) → IsSortedOf farm.items leaves found → IsFirstNames farm.items leaves names
  pub gone : prepared.gone ≡ map place found.gone
  pub last_at : prepared.last.at ≡ place clean_name
  pub last : (leaves : Leaves) → IsSortedOf farm.items leaves found → prepared.last.leaf ≡ clean_leaf (placed farm.items leaves)
