use Rattle.owed_log.proofs.MomentLemmas.{file_law}
use Rattle.owed_log.proofs.laws.what_is_recorded_has_a_file.Goals as goal

pub returns : goal.returns
returns c = file_law
