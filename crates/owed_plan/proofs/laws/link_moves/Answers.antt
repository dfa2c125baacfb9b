use Rattle.owed_plan.proofs.LinkedLemmas.{link_law}
use Rattle.owed_plan.proofs.laws.link_moves.Goals as goal

pub returns : goal.returns
returns c = link_law
