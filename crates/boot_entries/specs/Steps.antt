-- The steps in which the boot menu's files are put and removed: rename(2), unlink(2).
use Rattle.std.specs.Prelude.{◌≡◌, ◌≤◌, ◌<◌, ◌^◌, ◌⊎◌, ◌++◌, ℕ, List, Option, length, map, take, option_map, option_to_list}
use Rattle.std.specs.List.{AllByRecursion}
use Rattle.generations.specs.declared.gens.Gens.{Gens}
use Rattle.host_trait.specs.Leaf.{open_file}
use Rattle.host_trait.specs.World.{WorldState, seen}
use Rattle.switch_names.specs.Names.{Name}
use Rattle.switch_parts.specs.Part.{IsFree}
use Rattle.tree_put.specs.declared.leaf_put.LeafPut.{LeafPut}
use Rattle.tree_put.specs.Sequence.{IsPutting, put_at, with_puts, without_places}
use Rattle.boot_entries.specs.declared.boot_texts.BootFile.{BootFile}
use Rattle.boot_entries.specs.declared.boot_texts.BootTexts.{BootTexts}
use Rattle.boot_entries.specs.BootPart.{boot_part}
use Rattle.boot_entries.specs.Places.{entry_path, loader_path}
use Rattle.boot_entries.specs.Texts.{boot_file, menu_of}

-- the put of a file
abbrev pub boot_put : BootFile → LeafPut
boot_put file = put_at file.at (open_file file.bytes)

-- what the boot loader reads first, where there is such a text
abbrev pub loader_files : Option (List ℕ) → List BootFile
loader_files loader = option_to_list (option_map (boot_file loader_path) loader)

-- what is put, in its order: each entry, and then what the boot loader reads first
abbrev pub boot_files : BootTexts → List BootFile
boot_files texts = texts.entries ++ loader_files texts.loader

-- the puts of what is put, in its order
abbrev pub boot_puts : BootTexts → List LeafPut
boot_puts texts = map boot_put (boot_files texts)

-- the world in which a boot menu is made
abbrev pub with_menu : BootTexts → WorldState → WorldState
with_menu texts w = without_places texts.gone (with_puts (boot_puts texts) w)

-- but for the stage, a moment is the world after all puts, without the first so many of the entries that go
pub record IsClearing (texts : BootTexts) (w m : WorldState) : Type 0 where
  pub count : ℕ
  pub some : count ≤ length texts.gone
  pub world : seen m ≡ seen (without_places (take count texts.gone) (with_puts (boot_puts texts) w))

-- a moment lies among the puts, or all is put and it lies among the removals
abbrev pub IsBootMoment : BootTexts → WorldState → WorldState → Type 0
IsBootMoment texts w m = IsPutting (boot_puts texts) w m ⊎ IsClearing texts w m

-- but for the stage, the world after all puts and removals
abbrev pub IsBootSet : BootTexts → WorldState → WorldState → Type 0
IsBootSet texts w v = seen v ≡ seen (with_menu texts w)

-- the place of a generation's entry
abbrev pub IsEntryPlace : Name → Type 0
IsEntryPlace at = (n : ℕ) × (n < 2 ^ 32) × (at ≡ entry_path n)

-- each of some files is put at the place of a generation's entry
abbrev pub AreEntries : List BootFile → Type 0
AreEntries files = AllByRecursion (λ file. IsEntryPlace file.at) files

-- a plan can be carried out: it is that of these leaves and some generations, and nothing is in its way
pub record CanApplyBoot (texts : BootTexts) (w : WorldState) : Type 0 where
  pub gens : Gens
  pub planned : texts ≡ menu_of gens w.leaves
  pub free : IsFree (boot_part gens) w.leaves
