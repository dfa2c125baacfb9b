use Rattle.owed_plan.proofs.PrefixLemmas.{law}
use Rattle.owed_plan.proofs.laws.stops_keep_owed.Goals as goal

pub returns : goal.returns
returns c = law
