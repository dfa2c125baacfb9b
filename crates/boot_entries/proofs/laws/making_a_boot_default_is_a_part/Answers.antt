use Rattle.boot_entries.proofs.DefaultLemmas.{default_end_law, default_moment_law, default_names_law, default_part_law, default_plan_law, default_stays_law}
use Rattle.boot_entries.proofs.GensLemmas.{gens_after_law}
use Rattle.boot_entries.proofs.laws.making_a_boot_default_is_a_part.Goals as goal

pub returns-clause-gens : goal.returns-clause-gens
returns-clause-gens c = gens_after_law

pub returns-clause-part : goal.returns-clause-part
returns-clause-part c = default_part_law

pub returns-clause-moments : goal.returns-clause-moments
returns-clause-moments c = default_moment_law

pub returns-clause-end : goal.returns-clause-end
returns-clause-end c = default_end_law

pub returns-clause-stays : goal.returns-clause-stays
returns-clause-stays c = default_stays_law

pub returns-clause-names : goal.returns-clause-names
returns-clause-names c = default_names_law

pub returns-clause-planned : goal.returns-clause-planned
returns-clause-planned c = default_plan_law
