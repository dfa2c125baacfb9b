use Rattle.std.proofs.lemmas.Result.{on_ok_weaker}
use Rattle.host_trait.specs.Change.{Stage}
use Rattle.host_trait.specs.World.{IsClear, stage}
use Rattle.job_host.proofs.JobLemmas.{then_moments, then_ok, waited}
use Rattle.job_host.proofs.MemoryLemmas.{told_on, told_raw, tree_moments, tree_ok}
use Rattle.job_host.proofs.memory_calls.MemoryJobsTree.write_stage.Goals as goal

pub returns-in_err-turn-clause-moments : goal.returns-in_err-turn-clause-moments
returns-in_err-turn-clause-moments c = waited (Stage c.args.leaf.now) c.turn.ensures.reads.moments

pub write_stage-requires : goal.write_stage-requires
write_stage-requires c = told_raw c.turn.new.self.queue.items c.turn.new.self.host (λ leaves. IsClear leaves stage) (told_on c.turn.ensures.reads.moments c.requires)

pub returns-clause-ok : goal.returns-clause-ok
returns-clause-ok c =
    on_ok_weaker c.write_stage.result
    (λ is.
    then_ok (Stage c.args.leaf.now) c.turn.ensures.reads.moments
    (tree_ok c.turn.new.self.queue.items c.turn.new.self.host c.write_stage.new.self (Stage c.args.leaf.now) tt c.write_stage.ensures.beside is))
    c.write_stage.ensures.ok

pub returns-clause-moments : goal.returns-clause-moments
returns-clause-moments c =
    then_moments (Stage c.args.leaf.now) c.turn.ensures.reads.moments
    (tree_moments c.turn.new.self.queue.items c.turn.new.self.host c.write_stage.new.self (Stage c.args.leaf.now) c.write_stage.ensures.beside)
