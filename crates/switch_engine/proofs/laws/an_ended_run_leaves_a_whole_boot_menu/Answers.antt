use Rattle.switch_engine.proofs.WholeLemmas.{whole_law}
use Rattle.switch_engine.proofs.laws.an_ended_run_leaves_a_whole_boot_menu.Goals as goal

pub returns : goal.returns
returns c = whole_law
