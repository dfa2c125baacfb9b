use Rattle.etc_farm.proofs.LeafLemmas.{entry_leaf_law, fixed_link_law, leaves_law}
use Rattle.etc_farm.proofs.laws.no_other_leaf_stands.Goals as goal

pub returns-clause-leaves : goal.returns-clause-leaves
returns-clause-leaves c = leaves_law

pub returns-clause-entries : goal.returns-clause-entries
returns-clause-entries c = entry_leaf_law

pub returns-clause-fixed_link : goal.returns-clause-fixed_link
returns-clause-fixed_link c = fixed_link_law
