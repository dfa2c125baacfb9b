use Rattle.std.proofs.Common.{rules}
use Rattle.dry_report.proofs.reporting.write_generation.Goals as goal

pub returns-in_ok-write_line : goal.returns-in_ok-write_line
returns-in_ok-write_line c = search rules steps 400000
