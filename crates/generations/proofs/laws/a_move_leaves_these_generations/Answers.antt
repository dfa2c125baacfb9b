use Rattle.generations.proofs.MoveLemmas.{gens_of_move}
use Rattle.generations.proofs.laws.a_move_leaves_these_generations.Goals as goal

pub returns : goal.returns
returns c = gens_of_move
