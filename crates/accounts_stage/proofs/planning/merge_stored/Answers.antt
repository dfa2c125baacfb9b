use Rattle.accounts_stage.specs.All.{stored_with}
use Rattle.accounts_stage.proofs.AnsweringLemmas.{merge_made}
use Rattle.accounts_stage.proofs.planning.merge_stored.Goals as goal

pub returns-in-Ok-clause-merged : goal.returns-in-Ok-clause-merged
returns-in-Ok-clause-merged c =
    merge_made c.args.spec.now (stored_with c.args.stored.now) c.in-Ok.merged c.in-Ok.ensures.merged c.in-Ok.ensures.order c.in-Ok.ensures.kept
