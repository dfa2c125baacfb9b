use Rattle.std.proofs.Common.{◌≡◌, ◌++◌, take}
use Rattle.std.specs.List.{flat_map}
use Rattle.dry_report.specs.Report.{cycle_line}
use Rattle.dry_report.proofs.reporting.write_cycles.Given as goal

-- the cycles so far are written
abbrev pub invariant-loop-cycle : goal.invariant-loop-cycle
invariant-loop-cycle l = l.out.items ≡ l.fn.out.items ++ flat_map cycle_line (take l.cycle-index l.cycles)
