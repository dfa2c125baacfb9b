-- What a firmware finds in the boot menu at any moment: Boot Loader Specification, "Type #1 Boot Loader Specification Entries".
use Rattle.std.specs.Prelude.{◌≡◌, ◌<◌, ◌^◌, ◌⊎◌, ℕ, Some, IsSome}
use Rattle.std.specs.FinMap.{get}
use Rattle.generations.specs.Places.{IsCurrent, generation_at}
use Rattle.host_trait.specs.Leaf.{open_file}
use Rattle.host_trait.specs.declared.leaf.LeafKind.{LeafKind}
use Rattle.host_trait.specs.World.{Leaves}
use Rattle.switch_names.specs.Names.{Name}
use Rattle.boot_entries.specs.Entries.{loader_text}
use Rattle.boot_entries.specs.Places.{entry_path, loader_path}
use Rattle.boot_entries.specs.Texts.{entry_of}

-- a leaf is the entry of the generation of this number that stands now, by the files that its system has had from the first
pub record IsEntryOf (first now : Leaves) (n : ℕ) (leaf : LeafKind) : Type 0 where
  pub system : Name
  pub stands : generation_at now n ≡ Some (Some system)
  pub text : leaf ≡ open_file (entry_of first n system).bytes

-- what the boot loader reads first names the current generation, whose entry stands
pub record IsLoaderOf (first now : Leaves) : Type 0 where
  pub number : ℕ
  pub current : IsCurrent now number
  pub named : get now loader_path ≡ Some (open_file (loader_text number))
  pub entry : LeafKind
  pub stands : get now (entry_path number) ≡ Some entry
  pub is_entry : IsEntryOf first now number entry

-- Each entry that stands now stood at first, or is that of a generation that stands. An entry that stood at first is
-- gone only where no generation of its number names a system. What the boot loader reads first is as it was, or
-- names the current generation, whose entry stands.
pub record IsMenuBetween (first now : Leaves) : Type 0 where
  pub entries : (n : ℕ) (leaf : LeafKind) → n < 2 ^ 32 → get now (entry_path n) ≡ Some leaf → (get first (entry_path n) ≡ Some leaf) ⊎ IsEntryOf first now n leaf
  pub kept : (n : ℕ) (system : Name) → generation_at now n ≡ Some (Some system) → IsSome (get first (entry_path n)) → IsSome (get now (entry_path n))
  pub loader : (get now loader_path ≡ get first loader_path) ⊎ IsLoaderOf first now

-- each numbered entry that stands is that of a generation that stands
abbrev pub IsMenuWhole : Leaves → Leaves → Type 0
IsMenuWhole first now = (n : ℕ) (leaf : LeafKind) → n < 2 ^ 32 → get now (entry_path n) ≡ Some leaf → IsEntryOf first now n leaf
