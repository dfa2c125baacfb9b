use Rattle.std.proofs.Common.{◌≡◌, map, take}
use Rattle.boot_entries.specs.Steps.{boot_put}
use Rattle.boot_entries.proofs.applying.entry_puts.Given as goal

-- the puts of the entries so far are listed
abbrev pub invariant-loop-entry : goal.invariant-loop-entry
invariant-loop-entry l = l.puts ≡ map boot_put (take l.entry-index l.entries)
