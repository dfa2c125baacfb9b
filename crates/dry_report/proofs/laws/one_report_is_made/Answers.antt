use Rattle.dry_report.proofs.ReportLemmas.{one_told}
use Rattle.dry_report.proofs.laws.one_report_is_made.Goals as goal

pub returns : goal.returns
returns c = one_told
