use Rattle.switch_engine.proofs.RefusesLemmas.{steady_refusal_law}
use Rattle.switch_engine.proofs.laws.steady_refusal.Goals as goal

pub returns : goal.returns
returns c = steady_refusal_law
