use Rattle.etc_clean.proofs.AgainLemmas.{again_law}
use Rattle.etc_clean.proofs.KeepsLemmas.{alike_law, first_list_law, last_list_law, put_law, removal_law, static_law}
use Rattle.etc_clean.proofs.laws.farms_are_kept.Goals as goal

pub returns-clause-first_list : goal.returns-clause-first_list
returns-clause-first_list c = first_list_law

pub returns-clause-fixed_link : goal.returns-clause-fixed_link
returns-clause-fixed_link c = static_law

pub returns-clause-removal : goal.returns-clause-removal
returns-clause-removal c = removal_law

pub returns-clause-put : goal.returns-clause-put
returns-clause-put c = put_law

pub returns-clause-last_list : goal.returns-clause-last_list
returns-clause-last_list c = last_list_law

pub returns-clause-elsewhere : goal.returns-clause-elsewhere
returns-clause-elsewhere c = alike_law

pub returns-clause-again : goal.returns-clause-again
returns-clause-again c = again_law
