use Rattle.switch_engine.proofs.LawLemmas.{begins_underway}
use Rattle.switch_engine.proofs.laws.a_run_begins_underway.Goals as goal

pub returns : goal.returns
returns c = begins_underway
