use Rattle.start_order.proofs.OneLemmas.{one_answer_law}
use Rattle.start_order.proofs.laws.one_answer_is_there.Goals as goal

pub returns : goal.returns
returns c = one_answer_law
