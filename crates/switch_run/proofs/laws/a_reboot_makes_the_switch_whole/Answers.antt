use Rattle.switch_run.proofs.RebootsLemmas.{reboots_law}
use Rattle.switch_run.proofs.laws.a_reboot_makes_the_switch_whole.Goals as goal

pub returns : goal.returns
returns c = reboots_law
