use Rattle.std.proofs.Common.{rules}
use Rattle.unit_stage.proofs.unit_plan.UnitPlan.none.Goals as goal

pub returns : goal.returns
returns c = search rules steps 300000
