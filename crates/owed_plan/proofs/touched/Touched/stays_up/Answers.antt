use Rattle.std.proofs.Common.{rules}
use Rattle.owed_plan.proofs.touched.Touched.stays_up.Goals as goal

pub returns-then-is_active : goal.returns-then-is_active
returns-then-is_active c = search rules steps 300000

pub returns-else-is_active : goal.returns-else-is_active
returns-else-is_active c = search rules steps 300000
