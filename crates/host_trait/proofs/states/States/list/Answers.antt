use Rattle.std.proofs.Common.{subst, ◌∙◌, ap}
use Rattle.host_trait.specs.States.{AreStates, UnitStates, listed_states}
use Rattle.host_trait.proofs.StateLists.{are_states, list_is}
use Rattle.host_trait.proofs.states.States.list.Goals as goal

pub returns-clause-list : goal.returns-clause-list
returns-clause-list c = list_is c.self.inside.list c.self.invariant ∙ ap (λ (s : UnitStates). listed_states s) c.self.view_is

pub returns-clause-are_states : goal.returns-clause-are_states
returns-clause-are_states c = subst AreStates c.self.view_is (are_states c.self.inside.list c.self.invariant)
