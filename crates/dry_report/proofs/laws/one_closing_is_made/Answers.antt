use Rattle.dry_report.proofs.LeftLemmas.{one_closing}
use Rattle.dry_report.proofs.laws.one_closing_is_made.Goals as goal

pub returns : goal.returns
returns c = one_closing
