use Rattle.unit_stage.proofs.LogLemmas.{steady_log_law}
use Rattle.unit_stage.proofs.laws.a_steady_log_is_short.Goals as goal

pub returns : goal.returns
returns c = steady_log_law
