use Rattle.users_merge.proofs.SafeLemmas.{ids_law}
use Rattle.users_merge.proofs.laws.ids_are_safe.Goals as goal

pub returns : goal.returns
returns c = ids_law
