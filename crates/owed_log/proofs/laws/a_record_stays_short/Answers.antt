use Rattle.owed_log.proofs.LengthLemmas.{short_record_law}
use Rattle.owed_log.proofs.laws.a_record_stays_short.Goals as goal

pub returns : goal.returns
returns c = short_record_law
