use Rattle.switch_engine.proofs.LawLemmas.{come_back}
use Rattle.switch_engine.proofs.laws.cut_rollbacks_end_alike.Goals as goal

pub returns : goal.returns
returns c = come_back
