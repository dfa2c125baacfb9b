use Rattle.generations.proofs.MoveLemmas.{gens_stay}
use Rattle.generations.proofs.laws.generations_after_a_move_stay.Goals as goal

pub returns : goal.returns
returns c = gens_stay
