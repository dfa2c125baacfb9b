use Rattle.owed_log.proofs.MomentLemmas.{clear_law_of}
use Rattle.owed_log.proofs.laws.a_list_is_cleared_alone.Goals as goal

pub returns : goal.returns
returns c = clear_law_of
