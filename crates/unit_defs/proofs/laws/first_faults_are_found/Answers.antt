use Rattle.unit_defs.proofs.FirstFaultLemmas.{first_is_found, found_is_first, found_none, none_is_found}
use Rattle.unit_defs.proofs.laws.first_faults_are_found.Goals as goal

pub returns-clause-first : goal.returns-clause-first
returns-clause-first c = λ leaves system unit line. (found_is_first leaves system unit line, first_is_found leaves system unit line)

pub returns-clause-none : goal.returns-clause-none
returns-clause-none c = λ leaves system. (found_none leaves system, none_is_found leaves system)
