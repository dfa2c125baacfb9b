use Rattle.host_trait.proofs.Readings.{read_handed, read_ok, read_then}
use Rattle.job_host.proofs.WaitLemmas.{none_waits}
use Rattle.job_host.proofs.job_host.JobHostTree.sync.Goals as goal

pub returns-in_err-sync-clause-reads : goal.returns-in_err-sync-clause-reads
returns-in_err-sync-clause-reads g c = read_handed (read_then c.finish.ensures.reads c.in_err-sync.ensures.reads) _ c.from_residual-in_err-sync.ensures.1

pub returns-clause-reads : goal.returns-clause-reads
returns-clause-reads g c = read_ok (read_then c.finish.ensures.reads c.sync.ensures.reads) _

pub returns-clause-settled : goal.returns-clause-settled
returns-clause-settled g c = none_waits _ _ c.in_ok-finish.ensures.none c.sync.ensures.waits
