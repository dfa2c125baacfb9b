use Rattle.boot_entries.proofs.PlanLawLemmas.{plan_law}
use Rattle.boot_entries.proofs.laws.boot_plans_stay.Goals as goal

pub returns : goal.returns
returns c = plan_law
