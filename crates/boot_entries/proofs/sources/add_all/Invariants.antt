use Rattle.std.proofs.Common.{◌≡◌, ◌++◌, take}
use Rattle.std.specs.List.{flat_map}
use Rattle.boot_entries.specs.Sources.{sources_of}
use Rattle.boot_entries.proofs.sources.add_all.Given as goal

-- what was there, and the files of the generations so far
abbrev pub invariant-loop-generation : goal.invariant-loop-generation
invariant-loop-generation l = l.paths ≡ l.initial.paths ++ flat_map sources_of (take l.generation-index l.list)
