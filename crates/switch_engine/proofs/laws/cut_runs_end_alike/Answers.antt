use Rattle.switch_engine.proofs.LawLemmas.{alike}
use Rattle.switch_engine.proofs.laws.cut_runs_end_alike.Goals as goal

pub returns : goal.returns
returns c = alike
