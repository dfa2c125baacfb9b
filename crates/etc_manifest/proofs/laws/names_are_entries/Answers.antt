use Rattle.etc_manifest.proofs.LeafLemmas.{entries_exact, entries_sorted}
use Rattle.etc_manifest.proofs.laws.names_are_entries.Goals as goal

pub returns-clause-exact : goal.returns-clause-exact
returns-clause-exact c = λ leaves system name named. entries_exact leaves system named name

pub returns-clause-sorted : goal.returns-clause-sorted
returns-clause-sorted c = λ leaves system. entries_sorted leaves system
