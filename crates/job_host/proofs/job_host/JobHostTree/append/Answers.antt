use Rattle.host_trait.specs.Change.{Append}
use Rattle.job_host.proofs.JobLemmas.{then_moments, then_ok, waited}
use Rattle.job_host.proofs.WaitLemmas.{none_waits}
use Rattle.job_host.proofs.job_host.JobHostTree.append.Goals as goal

pub returns-in_err-finish-clause-moments : goal.returns-in_err-finish-clause-moments
returns-in_err-finish-clause-moments g c = waited (Append c.args.at.now c.args.bytes.now) c.finish.ensures.reads.moments

pub returns-in_err-append-clause-moments : goal.returns-in_err-append-clause-moments
returns-in_err-append-clause-moments g c = then_moments (Append c.args.at.now c.args.bytes.now) c.finish.ensures.reads.moments c.append.ensures.moments

pub returns-clause-ok : goal.returns-clause-ok
returns-clause-ok g c = then_ok (Append c.args.at.now c.args.bytes.now) c.finish.ensures.reads.moments c.in_ok-append.ensures.ok

pub returns-clause-moments : goal.returns-clause-moments
returns-clause-moments g c = then_moments (Append c.args.at.now c.args.bytes.now) c.finish.ensures.reads.moments c.append.ensures.moments

pub returns-clause-settled : goal.returns-clause-settled
returns-clause-settled g c = none_waits _ _ c.in_ok-finish.ensures.none c.append.ensures.waits
