use Rattle.switch_engine.proofs.RebootLemmas.{switch_reboot_law}
use Rattle.switch_engine.proofs.laws.a_switch_outlasts_a_reboot.Goals as goal

pub returns : goal.returns
returns c = switch_reboot_law
