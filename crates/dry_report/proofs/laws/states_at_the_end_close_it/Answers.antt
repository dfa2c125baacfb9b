use Rattle.dry_report.proofs.LeftLemmas.{states_close}
use Rattle.dry_report.proofs.laws.states_at_the_end_close_it.Goals as goal

pub returns : goal.returns
returns c = states_close
