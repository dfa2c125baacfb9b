use Rattle.switch_run.proofs.RunsLemmas.{back}
use Rattle.switch_run.proofs.laws.cut_rollbacks_end_as_one.Goals as goal

pub returns : goal.returns
returns c = back
