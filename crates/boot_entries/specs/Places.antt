-- Where the boot menu's entries stand: Boot Loader Specification, "Type #1 Boot Loader Specification Entries"; loader.conf(5).
use Rattle.std.specs.Prelude.{◌||◌, ◌++◌, ◌^◌, ℕ, zero, suc, Bool, List, codes, Option, None, Some, is_some, if◌then◌else◌}
use Rattle.std.specs.Fmt.{decimal}
use Rattle.host_trait.specs.World.{is_path}
use Rattle.switch_names.specs.Names.{Name}

-- the folder of the entries
unfoldable pub entries_folder : Name
entries_folder = codes "boot/loader/entries"

-- what the boot loader reads first
unfoldable pub loader_path : Name
loader_path = codes "boot/loader/loader.conf"

-- the name of a generation's entry
abbrev pub entry_name : ℕ → List ℕ
entry_name n = codes "nixos-generation-" ++ (decimal n ++ codes ".conf")

-- a generation's entry
unfoldable pub entry_path : ℕ → Name
entry_path n = codes "boot/loader/entries/" ++ entry_name n

-- the number below a bound whose entry has this path
unfoldable pub number_below : ℕ → Name → Option ℕ
number_below zero q = None
number_below (suc n) q = if is_path q (entry_path n) then Some n else number_below n q

-- the number that an entry's path has, from 0 to 4,294,967,295 and without leading zeros
unfoldable pub numbered : Name → Option ℕ
numbered q = number_below (2 ^ 32) q

-- what a switch keeps of the boot menu: what the loader reads first, and all numbered entries
abbrev pub owns_boot : Name → Bool
owns_boot q = is_path q loader_path || is_some (numbered q)
