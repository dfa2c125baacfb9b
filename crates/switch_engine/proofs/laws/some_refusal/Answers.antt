use Rattle.switch_engine.proofs.RefusesLemmas.{some_refusal_law}
use Rattle.switch_engine.proofs.laws.some_refusal.Goals as goal

pub returns : goal.returns
returns c = some_refusal_law
