use Rattle.std.proofs.Common.{◌≡◌, ◌++◌, take}
use Rattle.dry_report.specs.Lines.{told_each}
use Rattle.dry_report.proofs.collecting.write_store_paths.Given as goal

-- the store paths so far are told
abbrev pub invariant-loop-name : goal.invariant-loop-name
invariant-loop-name l = l.out.items ≡ l.fn.out.items ++ told_each l.front (take l.name-index l.names)
