use Rattle.switch_engine.specs.Commands.{set_to}
use Rattle.switch_engine.proofs.BootLemmas.{boots_into}
use Rattle.switch_engine.proofs.laws.a_cut_run_boots_into_the_old_system_or_the_new.Goals as goal

pub returns : goal.returns
returns c = λ command w m moment. boots_into (set_to command w.leaves) w m moment.named
