use Rattle.unit_stage.proofs.LogLemmas.{some_length_law}
use Rattle.unit_stage.proofs.laws.each_world_has_a_length_of_the_log.Goals as goal

pub returns : goal.returns
returns c = some_length_law
