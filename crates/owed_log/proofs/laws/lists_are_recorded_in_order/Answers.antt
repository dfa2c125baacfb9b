use Rattle.owed_log.proofs.MomentLemmas.{record_law}
use Rattle.owed_log.proofs.laws.lists_are_recorded_in_order.Goals as goal

pub returns : goal.returns
returns c = record_law
