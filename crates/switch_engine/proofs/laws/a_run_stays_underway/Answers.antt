use Rattle.switch_engine.proofs.LawLemmas.{over_then, stays_underway}
use Rattle.switch_engine.proofs.laws.a_run_stays_underway.Goals as goal

pub returns-clause-underway : goal.returns-clause-underway
returns-clause-underway c first w m command before after = stays_underway command first w before m after

pub returns-clause-over : goal.returns-clause-over
returns-clause-over c first w v command before after = over_then command first w before v after
