use Rattle.owed_plan.proofs.SteadyLemmas.{steady_law}
use Rattle.owed_plan.proofs.laws.stops_stay_steady.Goals as goal

pub returns : goal.returns
returns c = steady_law
