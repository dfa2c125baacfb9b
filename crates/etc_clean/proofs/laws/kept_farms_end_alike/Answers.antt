use Rattle.etc_clean.proofs.KeepsLemmas.{end_law, steps_law, whole_law}
use Rattle.etc_clean.proofs.laws.kept_farms_end_alike.Goals as goal

pub returns-clause-end : goal.returns-clause-end
returns-clause-end c = end_law

pub returns-clause-steps : goal.returns-clause-steps
returns-clause-steps c = steps_law

pub returns-clause-whole : goal.returns-clause-whole
returns-clause-whole c = whole_law
