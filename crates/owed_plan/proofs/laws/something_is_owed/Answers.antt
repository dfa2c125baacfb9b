use Rattle.owed_plan.proofs.ExistLemmas.{plan_at}
use Rattle.owed_plan.proofs.laws.something_is_owed.Goals as goal

pub returns : goal.returns
returns c = plan_at
