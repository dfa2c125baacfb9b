use Rattle.generations.proofs.MoveLemmas.{move_moment}
use Rattle.generations.proofs.laws.each_moment_of_a_move_is_one_of_its_part.Goals as goal

pub returns : goal.returns
returns c = move_moment
