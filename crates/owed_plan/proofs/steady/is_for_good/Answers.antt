use Rattle.std.proofs.Common.{rules}
use Rattle.owed_plan.proofs.steady.is_for_good.Goals as goal

pub returns-then-facts-2 : goal.returns-then-facts-2
returns-then-facts-2 c = search rules steps 300000

pub returns-else-facts-2 : goal.returns-else-facts-2
returns-else-facts-2 c = search rules steps 300000
