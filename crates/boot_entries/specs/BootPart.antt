-- The part of a switch that makes the boot menu: Boot Loader Specification, "Type #1 Boot Loader Specification Entries"; loader.conf(5).
use Rattle.std.specs.Prelude.{◌||◌, ◌++◌, ◌∷◌, ℕ, Bool, true, false, List, [], map, Option, None, Some, option_map, option_and_then, if◌then◌else◌}
use Rattle.std.specs.FinMap.{from_entries, get, keys}
use Rattle.std.specs.List.{filter_map}
use Rattle.std.specs.Option.{option_map_or}
use Rattle.host_trait.specs.Leaf.{open_file}
use Rattle.generations.specs.declared.gens.Gen.{Gen}
use Rattle.generations.specs.declared.gens.Gens.{Gens}
use Rattle.generations.specs.Gens.{listed_at}
use Rattle.host_trait.specs.declared.leaf.LeafKind.{LeafKind}
use Rattle.host_trait.specs.World.{Leaves, bytes_cmp, is_in_line, is_path, stage}
use Rattle.switch_names.specs.Names.{Name}
use Rattle.switch_parts.specs.Leaves.{leaf_part}
use Rattle.switch_parts.specs.Part.{Part}
use Rattle.switch_parts.specs.Store.{is_in_store}
use Rattle.tree_put.specs.declared.written_place.WrittenPlace.{WrittenPlace}
use Rattle.tree_put.specs.WrittenPlace.{written}
use Rattle.boot_entries.specs.Entries.{loader_text}
use Rattle.boot_entries.specs.Places.{entries_folder, entry_path, loader_path, numbered, owns_boot}
use Rattle.boot_entries.specs.Sources.{menu_too_long}
use Rattle.boot_entries.specs.Texts.{entry_of}

-- the entry's place of a generation, where it names a system
abbrev pub place_if : Gen → Option Name
place_if gen = option_map (λ system. entry_path gen.number) gen.target

-- the places of the entries of some generations, in byte order
abbrev pub entry_places : List Gen → List Name
entry_places list = keys (from_entries {R = bytes_cmp} (map (λ at. (at, true)) (filter_map place_if list)))

-- the places that are written, in byte order
abbrev pub boot_places : List Gen → List WrittenPlace
boot_places list = map (written false) (entry_places list) ++ written false loader_path ∷ written false stage ∷ []

-- what the boot menu looks at: its places, the store, and what could be in the way
abbrev pub reads_boot : Name → Bool
reads_boot q = owns_boot q || (is_in_store q || (is_path q entries_folder || (is_in_line q entries_folder || (is_in_line q loader_path || is_in_line q stage))))

-- the system that the generation of a number names, where it names one
abbrev pub system_at : List Gen → ℕ → Option Name
system_at list n = option_and_then (λ target. target) (listed_at list n)

-- the entry that stands for a number in the end, where its generation names a system
abbrev pub entry_end : List Gen → Leaves → ℕ → Option LeafKind
entry_end list leaves n = option_map (λ system. open_file (entry_of leaves n system).bytes) (system_at list n)

-- what the boot loader reads first, in the end: as it was where no generation is the current one
abbrev pub loader_end : Option ℕ → Leaves → Option LeafKind
loader_end None leaves = get leaves loader_path
loader_end (Some n) leaves = Some (open_file (loader_text n))

-- what is left at a place of the boot menu
abbrev pub boot_end : Gens → Leaves → Name → Option LeafKind
boot_end gens leaves q =
    if is_path q loader_path then loader_end gens.current leaves
    else option_map_or (entry_end gens.list leaves) (numbered q) (get leaves q)

-- the part that makes the boot menu of some generations: it is refused where a file that it is made of is too long
abbrev pub boot_part : Gens → Part
boot_part gens = leaf_part owns_boot reads_boot (λ leaves. boot_places gens.list) (menu_too_long gens) (boot_end gens)
