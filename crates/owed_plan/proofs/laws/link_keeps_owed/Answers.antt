use Rattle.owed_plan.proofs.CalledLemmas.{after_link_law}
use Rattle.owed_plan.proofs.laws.link_keeps_owed.Goals as goal

pub returns : goal.returns
returns c = after_link_law
