use Rattle.generations.proofs.MoveLemmas.{move_at_end}
use Rattle.generations.proofs.laws.a_move_leaves_its_part_at_its_end.Goals as goal

pub returns : goal.returns
returns c = move_at_end
