use Rattle.owed_log.proofs.MomentLemmas.{prepared_law}
use Rattle.owed_log.proofs.laws.what_is_prepared_can_be_appended.Goals as goal

pub returns : goal.returns
returns c = prepared_law
