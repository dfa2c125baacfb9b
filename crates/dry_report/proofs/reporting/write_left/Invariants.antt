use Rattle.std.proofs.Common.{◌≡◌, ◌++◌, codes, take}
use Rattle.std.specs.List.{flat_map}
use Rattle.dry_report.specs.Report.{line}
use Rattle.dry_report.proofs.reporting.write_left.Given as goal

-- the units so far are written
abbrev pub invariant-loop-unit : goal.invariant-loop-unit
invariant-loop-unit l = l.out.items ≡ l.fn.out.items ++ flat_map (line (codes "leave")) (take l.unit-index l.left)
