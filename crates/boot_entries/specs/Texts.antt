-- The entries that a boot menu has for some generations: NixOS manual, "Rolling Back Configuration Changes"; loader.conf(5).
use Rattle.std.specs.Prelude.{◌&&◌, ◌==◌, not, ℕ, Bool, true, List, filter, Option, is_some, option_map}
use Rattle.std.specs.List.{filter_map, list_any}
use Rattle.std.specs.Option.{option_map_or}
use Rattle.generations.specs.declared.gens.Gen.{Gen}
use Rattle.generations.specs.declared.gens.Gens.{Gens}
use Rattle.host_trait.specs.World.{Leaves, listed}
use Rattle.switch_names.specs.Names.{Name}
use Rattle.boot_entries.specs.declared.boot_texts.BootFile.{BootFile}
use Rattle.boot_entries.specs.declared.boot_texts.BootTexts.{BootTexts}
use Rattle.boot_entries.specs.Entries.{entry_text, line_at, loader_text, params_path, version_path}
use Rattle.boot_entries.specs.Places.{entries_folder, entry_path, numbered}

-- a text that is put at a place
abbrev pub boot_file : Name → List ℕ → BootFile
boot_file at bytes = record { at = at; bytes = bytes }

-- the entry of a generation that names a system
abbrev pub entry_of : Leaves → ℕ → Name → BootFile
entry_of leaves n system = boot_file (entry_path n) (entry_text n system (line_at leaves (version_path system)) (line_at leaves (params_path system)))

-- the entry of a generation, where it names a system
abbrev pub entry_if : Leaves → Gen → Option BootFile
entry_if leaves gen = option_map (entry_of leaves gen.number) gen.target

-- the entries of some generations, in their order
abbrev pub entries_of : Leaves → List Gen → List BootFile
entries_of leaves list = filter_map (entry_if leaves) list

-- some generation has this number and names a system
abbrev pub has_target : List Gen → ℕ → Bool
has_target list n = list_any (λ gen. gen.number == n && is_some gen.target) list

-- a path is a numbered entry whose number isn't among these
abbrev pub is_gone_by : (ℕ → Bool) → Name → Bool
is_gone_by among q = not (option_map_or among (numbered q) true)

-- the numbered entries that stand, and whose number no generation with a target has, in byte order
abbrev pub gone_of : Leaves → List Gen → List Name
gone_of leaves list = filter (is_gone_by (has_target list)) (listed entries_folder leaves)

-- the boot menu of these generations: it boots the current one, where there is one
abbrev pub menu_of : Gens → Leaves → BootTexts
menu_of gens leaves = record { gone = gone_of leaves gens.list; entries = entries_of leaves gens.list; loader = option_map loader_text gens.current }
