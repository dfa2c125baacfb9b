use Rattle.std.proofs.lemmas.Result.{on_ok_weaker}
use Rattle.host_trait.specs.Change.{Append}
use Rattle.job_host.proofs.JobLemmas.{then_moments, then_ok, waited}
use Rattle.job_host.proofs.MemoryLemmas.{tree_moments, tree_ok}
use Rattle.job_host.proofs.memory_calls.MemoryJobsTree.append.Goals as goal

pub returns-in_err-turn-clause-moments : goal.returns-in_err-turn-clause-moments
returns-in_err-turn-clause-moments c = waited (Append c.args.at.now c.args.bytes.now) c.turn.ensures.reads.moments

pub returns-clause-ok : goal.returns-clause-ok
returns-clause-ok c =
    on_ok_weaker c.append.result
    (λ is.
    then_ok (Append c.args.at.now c.args.bytes.now) c.turn.ensures.reads.moments
    (tree_ok c.turn.new.self.queue.items c.turn.new.self.host c.append.new.self (Append c.args.at.now c.args.bytes.now) tt c.append.ensures.beside is))
    c.append.ensures.ok

pub returns-clause-moments : goal.returns-clause-moments
returns-clause-moments c =
    then_moments (Append c.args.at.now c.args.bytes.now) c.turn.ensures.reads.moments
    (tree_moments c.turn.new.self.queue.items c.turn.new.self.host c.append.new.self (Append c.args.at.now c.args.bytes.now) c.append.ensures.beside)
