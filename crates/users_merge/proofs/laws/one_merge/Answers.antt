use Rattle.users_merge.proofs.ExistLemmas.{one_merge}
use Rattle.users_merge.proofs.laws.one_merge.Goals as goal

pub returns : goal.returns
returns c = one_merge
