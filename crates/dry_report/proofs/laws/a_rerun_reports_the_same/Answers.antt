use Rattle.dry_report.proofs.RerunLemmas.{rerun_reports}
use Rattle.dry_report.proofs.laws.a_rerun_reports_the_same.Goals as goal

pub returns : goal.returns
returns c = rerun_reports
