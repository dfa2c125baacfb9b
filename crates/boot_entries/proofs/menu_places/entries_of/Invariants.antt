use Rattle.std.proofs.Common.{◌≡◌, take}
use Rattle.std.specs.List.{filter_map}
use Rattle.switch_names.specs.Names.{Name, has}
use Rattle.boot_entries.specs.BootPart.{place_if}
use Rattle.boot_entries.proofs.menu_places.entries_of.Given as goal

-- the set has the places of the generations so far
abbrev pub invariant-loop-generation : goal.invariant-loop-generation
invariant-loop-generation l = (q : Name) → has l.entries.keys q ≡ has (filter_map place_if (take l.generation-index l.list)) q
