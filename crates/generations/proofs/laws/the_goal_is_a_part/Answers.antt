use Rattle.generations.proofs.GoalPartLemmas.{cleared_at_end, cleared_moment, goal_is, goal_short, recorded_moment}
use Rattle.generations.proofs.laws.the_goal_is_a_part.Goals as goal

pub returns-clause-part : goal.returns-clause-part
returns-clause-part c = goal_is

pub returns-clause-recording : goal.returns-clause-recording
returns-clause-recording c back n w m small moment = recorded_moment back n w m moment (goal_short n small)

pub returns-clause-clearing : goal.returns-clause-clearing
returns-clause-clearing c = cleared_moment

pub returns-clause-end : goal.returns-clause-end
returns-clause-end c = cleared_at_end
