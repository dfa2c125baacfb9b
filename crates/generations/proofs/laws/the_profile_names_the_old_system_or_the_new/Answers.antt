use Rattle.generations.proofs.MoveLemmas.{move_names}
use Rattle.generations.proofs.laws.the_profile_names_the_old_system_or_the_new.Goals as goal

pub returns : goal.returns
returns c = move_names
