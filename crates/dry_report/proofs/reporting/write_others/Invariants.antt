use Rattle.std.proofs.Common.{◌≡◌, ◌++◌, take}
use Rattle.dry_report.specs.Report.{other_lines}
use Rattle.dry_report.proofs.reporting.write_others.Given as goal

-- the calls so far are written
abbrev pub invariant-loop-duty : goal.invariant-loop-duty
invariant-loop-duty l = l.out.items ≡ l.fn.out.items ++ other_lines (take l.duty-index l.duties)
