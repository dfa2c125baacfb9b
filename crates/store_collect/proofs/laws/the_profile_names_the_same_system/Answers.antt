use Rattle.store_collect.proofs.BootSystemLemmas.{names_law}
use Rattle.store_collect.proofs.laws.the_profile_names_the_same_system.Goals as goal

pub returns : goal.returns
returns c = record { names = names_law }
