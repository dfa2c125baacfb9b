use Rattle.generations.proofs.MoveLemmas.{move_is}
use Rattle.generations.proofs.laws.the_profile_is_a_part.Goals as goal

pub returns : goal.returns
returns c = move_is
