use Rattle.log_text.proofs.SomeLemmas.{some_log}
use Rattle.log_text.proofs.laws.some_reading.Goals as goal

pub returns : goal.returns
returns c = some_log
