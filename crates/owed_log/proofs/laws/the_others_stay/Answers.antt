use Rattle.owed_log.proofs.MomentLemmas.{cleared_law}
use Rattle.owed_log.proofs.laws.the_others_stay.Goals as goal

pub returns : goal.returns
returns c = cleared_law
