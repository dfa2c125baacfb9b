use Rattle.owed_log.proofs.MomentLemmas.{recorded_law}
use Rattle.owed_log.proofs.laws.lists_are_read_as_recorded.Goals as goal

pub returns : goal.returns
returns c = recorded_law
