use Rattle.accounts_stage.proofs.PartLemmas.{plan_law}
use Rattle.accounts_stage.proofs.laws.account_plans_stay.Goals as goal

pub returns : goal.returns
returns c = plan_law
