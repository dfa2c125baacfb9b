use Rattle.std.proofs.Common.{◌≡◌, ◌++◌, take}
use Rattle.dry_report.specs.Lines.{told_each}
use Rattle.dry_report.proofs.activation.lines.write_paths.Given as goal

-- the paths so far are told
abbrev pub invariant-loop-path : goal.invariant-loop-path
invariant-loop-path l = l.out.items ≡ l.fn.out.items ++ told_each l.front (take l.path-index l.paths)
