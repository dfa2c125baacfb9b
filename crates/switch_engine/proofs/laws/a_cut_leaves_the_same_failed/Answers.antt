use Rattle.switch_engine.proofs.VerdictLemmas.{same_verdict}
use Rattle.switch_engine.proofs.laws.a_cut_leaves_the_same_failed.Goals as goal

pub returns : goal.returns
returns c first w v command named before end = same_verdict command first w v named before end
