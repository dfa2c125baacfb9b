use Rattle.std.proofs.Common.{sym, ◌∙◌}
use Rattle.generations.specs.Goal.{previous, recorded, some_number}
use Rattle.generations.proofs.GoalLemmas.{goal_unrecorded}
use Rattle.generations.proofs.PreviousLemmas.{previous_of_world}
use Rattle.generations.proofs.rollback_goal.goal.Goals as goal

pub returns-in-Some-previous-clause-goal : goal.returns-in-Some-previous-clause-goal
returns-in-Some-previous-clause-goal g c = record {
  has = λ w is.
      goal_unrecorded (recorded w.leaves) (some_number (previous w.leaves)) (sym (c.in_ok-found.ensures.recorded.has w is) ∙ c.in_default.is)
      ∙ sym (previous_of_world w.leaves c.args.gens.now (c.requires.has w is)) ∙ sym c.previous.ensures ∙ c.in-Some-previous.is;
}

pub returns-in-None-clause-none : goal.returns-in-None-clause-none
returns-in-None-clause-none g c none = record {
  has = λ w is.
      goal_unrecorded (recorded w.leaves) (some_number (previous w.leaves)) (sym (c.in_ok-found.ensures.recorded.has w is) ∙ c.in_default.is)
      ∙ sym (previous_of_world w.leaves c.args.gens.now (c.requires.has w is)) ∙ sym c.previous.ensures ∙ c.in-None.is;
}
