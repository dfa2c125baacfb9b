use Rattle.std.proofs.lemmas.Result.{on_ok_weaker}
use Rattle.host_trait.specs.Change.{Rename}
use Rattle.host_trait.specs.World.{IsClear}
use Rattle.job_host.proofs.JobLemmas.{then_moments, then_ok, waited}
use Rattle.job_host.proofs.MemoryLemmas.{told_on, told_raw, tree_moments, tree_ok}
use Rattle.job_host.proofs.memory_calls.MemoryJobsTree.rename_stage.Goals as goal

pub returns-in_err-turn-clause-moments : goal.returns-in_err-turn-clause-moments
returns-in_err-turn-clause-moments c = waited (Rename c.args.to.now) c.turn.ensures.reads.moments

pub rename_stage-requires-clause-clear : goal.rename_stage-requires-clause-clear
rename_stage-requires-clause-clear c = told_raw c.turn.new.self.queue.items c.turn.new.self.host (λ leaves. IsClear leaves c.args.to.now) (told_on c.turn.ensures.reads.moments c.requires.clear)

pub returns-clause-ok : goal.returns-clause-ok
returns-clause-ok c =
    on_ok_weaker c.rename_stage.result
    (λ is.
    then_ok (Rename c.args.to.now) c.turn.ensures.reads.moments
    (tree_ok c.turn.new.self.queue.items c.turn.new.self.host c.rename_stage.new.self (Rename c.args.to.now) tt c.rename_stage.ensures.beside is))
    c.rename_stage.ensures.ok

pub returns-clause-moments : goal.returns-clause-moments
returns-clause-moments c =
    then_moments (Rename c.args.to.now) c.turn.ensures.reads.moments
    (tree_moments c.turn.new.self.queue.items c.turn.new.self.host c.rename_stage.new.self (Rename c.args.to.now) c.rename_stage.ensures.beside)
