use Rattle.switch_engine.proofs.LawLemmas.{ended_over}
use Rattle.switch_engine.proofs.laws.an_ended_run_is_over.Goals as goal

pub returns : goal.returns
returns c first v command changes end = ended_over command first v changes end
