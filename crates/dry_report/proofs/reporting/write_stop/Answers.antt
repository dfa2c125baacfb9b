use Rattle.std.proofs.Common.{rules}
use Rattle.dry_report.proofs.reporting.write_stop.Goals as goal

pub returns-else-is_stop : goal.returns-else-is_stop
returns-else-is_stop c = search rules steps 400000
