use Rattle.users_merge.proofs.PutLemmas.{prefix_law, puts_law}
use Rattle.users_merge.proofs.laws.puts_keep_merge.Goals as goal

pub returns-clause-partly : goal.returns-clause-partly
returns-clause-partly c = prefix_law

pub returns-clause-same : goal.returns-clause-same
returns-clause-same c = puts_law
