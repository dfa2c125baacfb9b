use Rattle.host_trait.specs.Change.{Stage}
use Rattle.job_host.proofs.JobLemmas.{then_moments, then_ok, waited}
use Rattle.job_host.proofs.WaitLemmas.{none_waits}
use Rattle.job_host.proofs.job_host.JobHostTree.write_stage.Goals as goal

pub returns-in_err-finish-clause-moments : goal.returns-in_err-finish-clause-moments
returns-in_err-finish-clause-moments g c = waited (Stage c.args.leaf.now) c.finish.ensures.reads.moments

pub returns-in_err-write_stage-clause-moments : goal.returns-in_err-write_stage-clause-moments
returns-in_err-write_stage-clause-moments g c = then_moments (Stage c.args.leaf.now) c.finish.ensures.reads.moments c.write_stage.ensures.moments

pub returns-clause-ok : goal.returns-clause-ok
returns-clause-ok g c = then_ok (Stage c.args.leaf.now) c.finish.ensures.reads.moments c.in_ok-write_stage.ensures.ok

pub returns-clause-moments : goal.returns-clause-moments
returns-clause-moments g c = then_moments (Stage c.args.leaf.now) c.finish.ensures.reads.moments c.write_stage.ensures.moments

pub returns-clause-settled : goal.returns-clause-settled
returns-clause-settled g c = none_waits _ _ c.in_ok-finish.ensures.none c.write_stage.ensures.waits
