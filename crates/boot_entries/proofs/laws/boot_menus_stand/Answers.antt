use Rattle.boot_entries.proofs.MenuLemmas.{menu_begins_law, menu_end_law, menu_law, menu_since_law, menu_stays_law}
use Rattle.boot_entries.proofs.laws.boot_menus_stand.Goals as goal

pub returns-clause-moments : goal.returns-clause-moments
returns-clause-moments c = menu_law

pub returns-clause-end : goal.returns-clause-end
returns-clause-end c = menu_end_law

pub returns-clause-begins : goal.returns-clause-begins
returns-clause-begins c = menu_begins_law

pub returns-clause-stays : goal.returns-clause-stays
returns-clause-stays c = menu_stays_law

pub returns-clause-since : goal.returns-clause-since
returns-clause-since c = menu_since_law
