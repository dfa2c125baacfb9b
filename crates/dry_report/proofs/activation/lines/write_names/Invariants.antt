use Rattle.std.proofs.Common.{◌≡◌, ◌++◌, take}
use Rattle.dry_report.specs.Lines.{told_each}
use Rattle.dry_report.proofs.activation.lines.write_names.Given as goal

-- the names so far are told
abbrev pub invariant-loop-name : goal.invariant-loop-name
invariant-loop-name l = l.out.items ≡ l.fn.out.items ++ told_each l.front (take l.name-index l.names)
