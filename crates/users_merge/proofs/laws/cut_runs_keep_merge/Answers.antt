use Rattle.users_merge.proofs.PutLemmas.{runs_law}
use Rattle.users_merge.proofs.laws.cut_runs_keep_merge.Goals as goal

pub returns : goal.returns
returns c = runs_law
