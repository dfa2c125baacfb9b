use Rattle.users_merge.proofs.ExistLemmas.{some_merge}
use Rattle.users_merge.proofs.laws.something_is_merged.Goals as goal

pub returns : goal.returns
returns c = some_merge
