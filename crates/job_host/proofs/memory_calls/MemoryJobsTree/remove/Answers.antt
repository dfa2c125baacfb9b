use Rattle.std.proofs.lemmas.Result.{on_ok_weaker}
use Rattle.host_trait.specs.Change.{Remove}
use Rattle.job_host.proofs.JobLemmas.{then_moments, then_ok, waited}
use Rattle.job_host.proofs.MemoryLemmas.{tree_moments, tree_ok}
use Rattle.job_host.proofs.memory_calls.MemoryJobsTree.remove.Goals as goal

pub returns-in_err-turn-clause-moments : goal.returns-in_err-turn-clause-moments
returns-in_err-turn-clause-moments c = waited (Remove c.args.at.now) c.turn.ensures.reads.moments

pub returns-clause-ok : goal.returns-clause-ok
returns-clause-ok c =
    on_ok_weaker c.remove.result
    (λ is.
    then_ok (Remove c.args.at.now) c.turn.ensures.reads.moments
    (tree_ok c.turn.new.self.queue.items c.turn.new.self.host c.remove.new.self (Remove c.args.at.now) tt c.remove.ensures.beside is))
    c.remove.ensures.ok

pub returns-clause-moments : goal.returns-clause-moments
returns-clause-moments c =
    then_moments (Remove c.args.at.now) c.turn.ensures.reads.moments
    (tree_moments c.turn.new.self.queue.items c.turn.new.self.host c.remove.new.self (Remove c.args.at.now) c.remove.ensures.beside)
