use Rattle.generations.proofs.GoalLemmas.{goal_law}
use Rattle.generations.proofs.laws.the_goal_stays.Goals as goal

pub returns : goal.returns
returns c = goal_law
