use Rattle.switch_engine.proofs.RefusesLemmas.{one_refusal_law}
use Rattle.switch_engine.proofs.laws.one_refusal.Goals as goal

pub returns : goal.returns
returns c = one_refusal_law
