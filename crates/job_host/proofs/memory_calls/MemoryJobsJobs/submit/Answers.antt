use Rattle.std.proofs.Common.{refl, inl}
use Rattle.std.proofs.lemmas.Result.{on_ok_weaker}
use Rattle.host_trait.specs.Change.{Perform}
use Rattle.host_trait.proofs.Moments.{same_as, same_then}
use Rattle.job_host.specs.Jobs.{IsSubmitMoment}
use Rattle.job_host.proofs.JobLemmas.{then_ok}
use Rattle.job_host.proofs.memory_calls.MemoryJobsJobs.submit.Goals as goal

pub returns-in_err-turn-clause-moments : goal.returns-in_err-turn-clause-moments
returns-in_err-turn-clause-moments c = same_as c.turn.ensures.reads.moments (IsSubmitMoment c.args.act c.args.unit.now) (λ w is. inl refl)

pub returns-clause-ok : goal.returns-clause-ok
returns-clause-ok c = on_ok_weaker c.queue_act.result (λ is. then_ok (Perform c.args.act c.args.unit.now) c.turn.ensures.reads.moments is) c.queue_act.ensures.ok

pub returns-clause-moments : goal.returns-clause-moments
returns-clause-moments c =
    same_then c.turn.ensures.reads.moments c.queue_act.ensures.moments (IsSubmitMoment c.args.act c.args.unit.now) (λ w is. inl refl) (λ w m is made. made)
