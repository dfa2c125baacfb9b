use Rattle.generations.proofs.BootLemmas.{boot_stays_law, named_law, old_or_new_law}
use Rattle.generations.proofs.laws.a_machine_boots_into_what_the_profile_names.Goals as goal

pub returns-clause-named : goal.returns-clause-named
returns-clause-named c = named_law

pub returns-clause-old_or_new : goal.returns-clause-old_or_new
returns-clause-old_or_new c = old_or_new_law

pub returns-clause-stays : goal.returns-clause-stays
returns-clause-stays c = boot_stays_law
