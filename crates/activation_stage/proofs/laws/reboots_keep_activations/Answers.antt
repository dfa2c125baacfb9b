use Rattle.activation_stage.proofs.RebootLemmas.{reboot_end_law, reboot_law}
use Rattle.activation_stage.proofs.laws.reboots_keep_activations.Goals as goal

pub returns-clause-same : goal.returns-clause-same
returns-clause-same c = reboot_law

pub returns-clause-end : goal.returns-clause-end
returns-clause-end c = reboot_end_law
