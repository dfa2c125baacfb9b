use Rattle.rehearse.proofs.FinishLemmas.{raw_told, through_finished, way_finished}
use Rattle.rehearse.proofs.jobs.through_jobs.Goals as goal

pub returns-in-Ok-clause-through : goal.returns-in-Ok-clause-through
returns-in-Ok-clause-through c =
    through_finished c.args.command.now c.args.cuts.now c.in_ok-summary.summary c.in_ok-summary.ensures.through c.finish.ensures.reads.moments c.finish.ensures.clock c.finish.ensures.reads.cause.later

pub returns-in-Ok-clause-moments : goal.returns-in-Ok-clause-moments
returns-in-Ok-clause-moments c = way_finished c.args.command.now c.through.ensures.moments c.finish.ensures.reads.moments

pub returns-in-Ok-clause-raw : goal.returns-in-Ok-clause-raw
returns-in-Ok-clause-raw c = raw_told c.finish.new.self.device c.in-Ok.ensures.none

pub returns-in-Err-clause-moments : goal.returns-in-Err-clause-moments
returns-in-Err-clause-moments c = way_finished c.args.command.now c.through.ensures.moments c.finish.ensures.reads.moments
