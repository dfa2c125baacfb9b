use Rattle.std.proofs.Common.{◌≡◌, ◌≤◌, ◌-◌, length}
use Rattle.switch_names.specs.SystemName.{store_folder}
use Rattle.store_names.proofs.FolderLemmas.{IsPassed}
use Rattle.store_names.proofs.search.occurring.Given as goal

-- what stands before the place where the search goes on is found
abbrev pub invariant-loop-at : goal.invariant-loop-at
invariant-loop-at l = (l.from ≤ length l.text) × (l.folder ≡ store_folder) × IsPassed l.fn.names l.fn.front l.fn.text l.from l.found.keys

abbrev pub decreases-loop-at : goal.decreases-loop-at
decreases-loop-at l = length l.text - l.from
