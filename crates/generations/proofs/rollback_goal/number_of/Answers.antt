use Rattle.generations.proofs.GoalLemmas.{no_goal_text}
use Rattle.generations.proofs.rollback_goal.number_of.Goals as goal

pub returns-in-Err : goal.returns-in-Err
returns-in-Err c = no_goal_text c.args.bytes.now c.in-Err.ensures.cases.0
