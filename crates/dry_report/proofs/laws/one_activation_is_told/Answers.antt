use Rattle.dry_report.proofs.ActivationLemmas.{one_report}
use Rattle.dry_report.proofs.laws.one_activation_is_told.Goals as goal

pub returns : goal.returns
returns c = one_report
