use Rattle.etc_farm.proofs.EtcLemmas.{etc_run_law}
use Rattle.etc_farm.proofs.RunLemmas.{foreign_law, known_law}
use Rattle.etc_farm.proofs.laws.what_was_put_stays_known.Goals as goal

pub returns-clause-runs : goal.returns-clause-runs
returns-clause-runs c = etc_run_law

pub returns-clause-known : goal.returns-clause-known
returns-clause-known c = known_law

pub returns-clause-foreign : goal.returns-clause-foreign
returns-clause-foreign c = foreign_law
