-- What a collection removes: nix-collect-garbage(1); Nix manual, "Garbage Collector Roots".
use Rattle.std.specs.Prelude.{◌≡◌, ◌++◌, ◌∷◌, ℕ, not, List, [], filter, map, Option, None, Some}
use Rattle.std.specs.List.{flat_map}
use Rattle.generations.specs.declared.gens.Gens.{Gens}
use Rattle.generations.specs.Gens.{IsGensOf}
use Rattle.host_trait.specs.World.{Leaves, WorldState, is_path, listed}
use Rattle.switch_names.specs.Names.{IsListOf, Name, has}
use Rattle.tree_put.specs.First.{first_in_the_way}
use Rattle.boot_entries.specs.declared.boot_texts.BootTexts.{BootTexts}
use Rattle.boot_entries.specs.BootPart.{boot_places}
use Rattle.boot_entries.specs.Entries.{version_path}
use Rattle.boot_entries.specs.Places.{loader_path}
use Rattle.boot_entries.specs.Sources.{taken_of}
use Rattle.boot_entries.specs.Texts.{menu_of}
use Rattle.leaf_limits.specs.declared.too_long.TooLong.{TooLong}
use Rattle.leaf_limits.specs.Limits.{IsFirstTooLong}
use Rattle.store_live.specs.Live.{IsDead}
use Rattle.store_collect.specs.declared.collection.Collection.{Collection}
use Rattle.store_collect.specs.Kept.{gens_kept, links_gone}

-- what the boot loader reads first, where it is put
abbrev pub loader_places : Option (List ℕ) → List Name
loader_places None = []
loader_places (Some text) = loader_path ∷ []

-- where links are no roots: those of the generations that go, and the places of the boot menu
abbrev pub passed_over : List Name → BootTexts → List Name
passed_over links texts = links ++ (texts.gone ++ (map (λ file. file.at) texts.entries ++ loader_places texts.loader))

-- of some paths, this one first, and then the others
abbrev pub first_of : Name → List Name → List Name
first_of at paths = filter (λ q. is_path q at) paths ++ filter (λ q. not (is_path q at)) paths

-- the leaves of some store paths, path by path: in each the file that makes it a system first
abbrev pub leaves_of : List Name → Leaves → List Name
leaves_of names leaves = flat_map (λ x. first_of (version_path x) (listed x leaves)) names

-- What is planned, given the generations that stand: the links of those that go, the boot menu of those that are kept, and the
-- dead store paths with their leaves.
pub record IsPlanned (keep : ℕ) (gens : Gens) (w : WorldState) (collection : Collection) : Type 0 where
  pub links : collection.links ≡ links_gone keep gens
  pub texts : collection.texts ≡ menu_of (gens_kept keep gens) w.leaves
  pub names : IsListOf collection.names (IsDead (has (passed_over collection.links collection.texts)) w)
  pub leaves : collection.leaves ≡ leaves_of collection.names w.leaves

-- a collection is that of a world
pub record IsCollectionOf (keep : ℕ) (w : WorldState) (collection : Collection) : Type 0 where
  pub gens : Gens
  pub stand : IsGensOf w.leaves gens
  pub planned : IsPlanned keep gens w collection

-- A file that the boot menu of the generations that are kept is made of is too long, and has so many bytes: of such files the first
-- in byte order.
pub record IsTooLongFor (keep : ℕ) (leaves : Leaves) (count : ℕ) : Type 0 where
  pub gens : Gens
  pub stand : IsGensOf leaves gens
  pub long : TooLong
  pub first : IsFirstTooLong (taken_of (gens_kept keep gens)) leaves long
  pub is_count : count ≡ long.count

-- none of them is too long
abbrev pub AreShortFor : ℕ → Leaves → Type 0
AreShortFor keep leaves = (count : ℕ) → IsTooLongFor keep leaves count → ⊥

-- a leaf stands in the way of this place of the boot menu of the generations that are kept, or of the stage: the first in byte order
pub record IsRefusedAt (keep : ℕ) (leaves : Leaves) (at : Name) : Type 0 where
  pub gens : Gens
  pub stand : IsGensOf leaves gens
  pub first : first_in_the_way (boot_places (gens_kept keep gens).list) leaves ≡ Some at
