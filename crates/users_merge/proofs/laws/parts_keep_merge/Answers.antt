use Rattle.users_merge.proofs.AgainLemmas.{law}
use Rattle.users_merge.proofs.laws.parts_keep_merge.Goals as goal

pub returns : goal.returns
returns c = law
