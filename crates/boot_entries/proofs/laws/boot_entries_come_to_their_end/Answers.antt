use Rattle.boot_entries.proofs.AtEndLemmas.{end_law}
use Rattle.boot_entries.proofs.EndLemmas.{only_law}
use Rattle.boot_entries.proofs.laws.boot_entries_come_to_their_end.Goals as goal

pub returns-clause-moments : goal.returns-clause-moments
returns-clause-moments c = only_law

pub returns-clause-end : goal.returns-clause-end
returns-clause-end c = end_law
