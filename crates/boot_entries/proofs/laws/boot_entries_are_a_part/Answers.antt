use Rattle.boot_entries.proofs.PartLemmas.{moment_law, part_law}
use Rattle.boot_entries.proofs.laws.boot_entries_are_a_part.Goals as goal

pub returns-clause-part : goal.returns-clause-part
returns-clause-part c = part_law

pub returns-clause-moments : goal.returns-clause-moments
returns-clause-moments c = moment_law
