use Rattle.owed_plan.proofs.LinkedLemmas.{stops_final_law}
use Rattle.owed_plan.proofs.laws.stops_keep_final_states.Goals as goal

pub returns : goal.returns
returns c = stops_final_law
