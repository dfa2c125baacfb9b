use Rattle.unit_defs.proofs.CountLemmas.{kept_names, names_exact, names_sorted}
use Rattle.unit_defs.proofs.laws.units_are_counted.Goals as goal

pub returns-clause-sorted : goal.returns-clause-sorted
returns-clause-sorted c = names_sorted

pub returns-clause-exact : goal.returns-clause-exact
returns-clause-exact c = names_exact

pub returns-clause-kept : goal.returns-clause-kept
returns-clause-kept c = kept_names
