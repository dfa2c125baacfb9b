use Rattle.unit_stage.proofs.LogLemmas.{one_length_law}
use Rattle.unit_stage.proofs.laws.one_length_of_the_log.Goals as goal

pub returns : goal.returns
returns c = one_length_law
