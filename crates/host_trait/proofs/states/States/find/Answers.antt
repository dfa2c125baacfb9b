use Rattle.std.proofs.Common.{◌≡◌, List, Some, IfOk, IfErr, ap, subst, ◌∙◌}
use Rattle.std.specs.List.{slice_get}
use Rattle.host_trait.specs.States.{IsPlaceFor, UnitStates, listed_states, units_of}
use Rattle.host_trait.specs.declared.unit_state.UnitState.{UnitState}
use Rattle.host_trait.proofs.StateLists.{list_is}
use Rattle.host_trait.proofs.states.States.find.Goals as goal

same : (c : goal.After-find_unit) → c.self.inside.list ≡ listed_states c.args.self.now
same c = list_is c.self.inside.list c.self.invariant ∙ ap (λ (s : UnitStates). listed_states s) c.self.view_is

pub returns-clause-found : goal.returns-clause-found
returns-clause-found c = subst (λ (list : List UnitState). IfOk c.find_unit.result (λ at. slice_get (units_of list) at ≡ Some c.args.unit.now)) (same c) c.find_unit.ensures.found

pub returns-clause-missing : goal.returns-clause-missing
returns-clause-missing c = subst (λ (list : List UnitState). IfErr c.find_unit.result (λ at. IsPlaceFor list c.args.unit.now at)) (same c) c.find_unit.ensures.missing

pub find_unit-requires : goal.find_unit-requires
find_unit-requires c = c.self.invariant
