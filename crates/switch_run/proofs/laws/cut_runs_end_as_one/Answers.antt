use Rattle.switch_run.proofs.RunsLemmas.{alike, over}
use Rattle.switch_run.proofs.laws.cut_runs_end_as_one.Goals as goal

pub returns-clause-alike : goal.returns-clause-alike
returns-clause-alike c = alike

pub returns-clause-over : goal.returns-clause-over
returns-clause-over c = over
