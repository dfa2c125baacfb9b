use Rattle.std.proofs.Common.{◌≡◌, sym, ap, subst, ◌∙◌}
use Rattle.host_trait.specs.States.{AreStates, UnitStates, listed_states, state_of, states_of}
use Rattle.host_trait.proofs.StateLists.{are_states, list_is}
use Rattle.host_trait.proofs.StateMaps.{same_states}
use Rattle.host_trait.proofs.states.States.same.Goals as goal

pub returns-clause-equal : goal.returns-clause-equal
returns-clause-equal c =
    let mine = c.self.inside.list in
    let other = c.other.inside.list in (
      λ is.
          let equal : mine ≡ other = sym c.as_slice.ensures ∙ c.are_same_lists.ensures.0 is ∙ c.as_slice-2.ensures in
          sym c.self.view_is ∙ ap states_of equal ∙ c.other.view_is,
      λ same.
          let states : states_of mine ≡ states_of other = c.self.view_is ∙ same ∙ sym c.other.view_is in
          let equal : mine ≡ other = list_is mine c.self.invariant ∙ ap listed_states states ∙ sym (list_is other c.other.invariant) in
          c.are_same_lists.ensures.1 (c.as_slice.ensures ∙ equal ∙ sym c.as_slice-2.ensures),
    )

pub returns-clause-alike : goal.returns-clause-alike
returns-clause-alike c =
    let equal = returns-clause-equal c in
    let mine = subst AreStates c.self.view_is (are_states c.self.inside.list c.self.invariant) in
    let other = subst AreStates c.other.view_is (are_states c.other.inside.list c.other.invariant) in (
      λ is unit. ap (λ (states : UnitStates). state_of states unit) (equal.0 is),
      λ same. equal.1 (same_states _ _ mine other same),
    )
