use Rattle.unit_decide.proofs.TableLemmas.{same_or_started}
use Rattle.unit_decide.proofs.laws.a_live_socket_only_changes_the_start.Goals as goal

pub returns : goal.returns
returns c = same_or_started
