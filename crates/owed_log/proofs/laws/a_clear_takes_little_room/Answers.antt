use Rattle.owed_log.proofs.LengthLemmas.{roomy_clear_law}
use Rattle.owed_log.proofs.laws.a_clear_takes_little_room.Goals as goal

pub returns : goal.returns
returns c = roomy_clear_law
