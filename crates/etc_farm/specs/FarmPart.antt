-- The part of a switch that puts a farm of links and copies below /etc: setup-etc.pl of nixpkgs.
use Rattle.std.specs.Prelude.{◌≡◌, ◌⊎◌, ◌&&◌, ◌||◌, ◌++◌, ◌∷◌, ℕ, Bool, true, false, List, [], codes, None}
use Rattle.switch_names.specs.Names.{Name, has}
use Rattle.switch_names.specs.Path.{slash}
use Rattle.host_trait.specs.World.{Leaves, WorldState, stage}
use Rattle.tree_put.specs.declared.written_place.WrittenPlace.{WrittenPlace}
use Rattle.tree_put.specs.WrittenPlace.{in_the_way, written}
use Rattle.switch_parts.specs.Leaves.{is_near}
use Rattle.switch_parts.specs.Part.{IsAtEnd, IsDone, IsFree, Part}
use Rattle.switch_parts.specs.Store.{is_in_store}
use Rattle.etc_manifest.specs.declared.item.Item.{Item}
use Rattle.etc_manifest.specs.Manifest.{AreApart, places}
use Rattle.etc_clean.specs.declared.sorting.Sorted.{Sorted}
use Rattle.etc_clean.specs.CleanList.{clean_name, clean_of}
use Rattle.etc_clean.specs.Etc.{Farm, etc, is_owned, static_name}
use Rattle.etc_clean.specs.Farm.{at, placed}
use Rattle.etc_clean.specs.Keeps.{AreFree, AreLines, Keeps}
use Rattle.etc_clean.specs.Names.{is_in_etc, name_of, place}
use Rattle.etc_clean.specs.Obsolete.{IsSortedOf}
use Rattle.etc_farm.specs.Lists.{AreListsShort}

-- where `/etc/static` leads: to a system's own etc
unfoldable pub static_target : Name → List ℕ
static_target system = slash ∷ (system ++ codes "/etc")

-- the farm of a system with these entries
abbrev pub farm_of : Name → List Item → Farm
farm_of system items = record { items = items; target = static_target system }

-- a path is one of the farm's own places
abbrev pub owns_farm : Name → Bool
owns_farm path = is_in_etc path && is_owned (name_of path)

-- the places that are always written, in byte order
abbrev pub fixed_places : List WrittenPlace
fixed_places = written true (place clean_name) ∷ written false (place static_name) ∷ written false stage ∷ []

-- what a farm looks at: its own places, what its clean list may lead to, and what could be in the way
abbrev pub reads_farm : Name → Bool
reads_farm path = owns_farm path || (is_in_store path || is_near fixed_places path)

-- a copy that is put is on the clean list before, and stays on it
pub record AreListed (items : List Item) (w m : Leaves) : Type 0 where
  pub stays : (q : Name) → has (placed items w) q ≡ true → has (clean_of w) q ≡ true → has (clean_of m) q ≡ true
  pub changed : (q : Name) → has (placed items w) q ≡ true → (at m q ≡ at w q) ⊎ (has (clean_of m) q ≡ true)

-- what each moment keeps: what the farm's end is made of, that its copies are listed, that nothing is in its way, and that its lists
-- can be read again
pub record KeepsFarm (items : List Item) (w m : WorldState) : Type 0 where
  pub keeps : Keeps items w.leaves m.leaves
  pub listed : AreListed items w.leaves m.leaves
  pub free : in_the_way fixed_places w.leaves ≡ None → in_the_way fixed_places m.leaves ≡ None
  pub short : AreListsShort items w.leaves m.leaves

-- the part that puts a farm
abbrev pub farm_part : Farm → Part
farm_part farm = record {
  owns = owns_farm;
  reads = reads_farm;
  calls = false;
  places = λ leaves. fixed_places;
  refusal = λ leaves. None;
  long = λ leaves. None;
  end = λ leaves path. etc farm leaves (name_of path);
  Keeps = λ w m. KeepsFarm farm.items w m;
}

-- a farm can be put where nothing is in its way, its entries are apart, and what is gone and blocked is known
pub record CanApply (farm : Farm) (found : Sorted) (w : WorldState) : Type 0 where
  pub free : IsFree (farm_part farm) w.leaves
  pub apart : AreApart (places farm.items)
  pub sorted : IsSortedOf farm.items w.leaves found

-- where a farm is put, and nothing else has changed that it looks at, putting it again leaves what stands
abbrev pub FarmAgainLaw : Type 0
FarmAgainLaw = (farm : Farm) (w v : WorldState) → AreFree farm.items → AreLines farm.items → IsDone (farm_part farm) w v → IsAtEnd (farm_part farm) v v
