use Rattle.owed_log.proofs.LengthLemmas.{roomy_record_law}
use Rattle.owed_log.proofs.laws.a_record_leaves_room.Goals as goal

pub returns : goal.returns
returns c = roomy_record_law
