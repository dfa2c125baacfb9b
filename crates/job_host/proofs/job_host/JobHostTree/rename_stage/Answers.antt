use Rattle.host_trait.specs.Change.{Rename}
use Rattle.job_host.proofs.JobLemmas.{then_moments, then_ok, waited}
use Rattle.job_host.proofs.WaitLemmas.{none_waits}
use Rattle.job_host.proofs.job_host.JobHostTree.rename_stage.Goals as goal

pub returns-in_err-finish-clause-moments : goal.returns-in_err-finish-clause-moments
returns-in_err-finish-clause-moments g c = waited (Rename c.args.to.now) c.finish.ensures.reads.moments

pub returns-in_err-rename_stage-clause-moments : goal.returns-in_err-rename_stage-clause-moments
returns-in_err-rename_stage-clause-moments g c = then_moments (Rename c.args.to.now) c.finish.ensures.reads.moments c.rename_stage.ensures.moments

pub returns-clause-ok : goal.returns-clause-ok
returns-clause-ok g c = then_ok (Rename c.args.to.now) c.finish.ensures.reads.moments c.in_ok-rename_stage.ensures.ok

pub returns-clause-moments : goal.returns-clause-moments
returns-clause-moments g c = then_moments (Rename c.args.to.now) c.finish.ensures.reads.moments c.rename_stage.ensures.moments

pub returns-clause-settled : goal.returns-clause-settled
returns-clause-settled g c = none_waits _ _ c.in_ok-finish.ensures.none c.rename_stage.ensures.waits
