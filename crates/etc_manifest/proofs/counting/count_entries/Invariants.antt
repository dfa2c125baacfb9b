use Rattle.std.proofs.Common.{◌≡◌, ◌≤◌, length, take}
use Rattle.switch_names.specs.Names.{has}
use Rattle.etc_manifest.specs.Entries.{entry_names}
use Rattle.etc_manifest.proofs.counting.count_entries.Given as goal

-- as many were entries so far, and no more than were looked at
abbrev pub invariant-loop-at : goal.invariant-loop-at
invariant-loop-at l = record {
  entries : l.count ≡ length (entry_names (has l.names) (take l.at l.names));
  few : l.count ≤ l.at;
}
