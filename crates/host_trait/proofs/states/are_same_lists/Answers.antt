use Rattle.std.proofs.Common.{◌≡◌, refl, ap}
use Rattle.std.specs.Bool.{Decides}
use Rattle.std.specs.Cmp.Lexicographic.{bytes_decides}
use Rattle.std.proofs.lemmas.Bool.{and_parts, and_from}
use Rattle.std.proofs.lemmas.Slice.Eq.{slice_eq-Decides}
use Rattle.host_trait.specs.declared.unit_state.State.{State}
use Rattle.host_trait.specs.declared.unit_state.State.TheVariants.{Active, Inactive, Failed}
use Rattle.host_trait.specs.declared.unit_state.UnitState.{UnitState}
use Rattle.host_trait.specs.contracts.unit_state.StatePartialEq as state_derived
use Rattle.host_trait.specs.contracts.unit_state.UnitStatePartialEq as derived
use Rattle.host_trait.proofs.states.are_same_lists.Goals as goal

state_decided : (s t : State) → Decides (state_derived.TheImpl.eq-value.it s t) (s ≡ t)
state_decided Active Active = (λ is. refl, λ is. refl)
state_decided Active Inactive = (λ is. cc, λ is. cc)
state_decided Active Failed = (λ is. cc, λ is. cc)
state_decided Inactive Active = (λ is. cc, λ is. cc)
state_decided Inactive Inactive = (λ is. refl, λ is. refl)
state_decided Inactive Failed = (λ is. cc, λ is. cc)
state_decided Failed Active = (λ is. cc, λ is. cc)
state_decided Failed Inactive = (λ is. cc, λ is. cc)
state_decided Failed Failed = (λ is. refl, λ is. refl)

decided : (a b : UnitState) → Decides (derived.TheImpl.eq-value.it a b) (a ≡ b)
decided a b = (
  λ is.
      let parts = and_parts _ _ is in
      let unit = (bytes_decides a.unit b.unit).0 parts.0 in
      let state = (state_decided a.state b.state).0 parts.1 in
      λ i. record { unit = unit i; state = state i },
  λ is. and_from _ _ ((bytes_decides a.unit b.unit).1 (ap (λ (u : UnitState). u.unit) is)) ((state_decided a.state b.state).1 (ap (λ (u : UnitState). u.state) is)),
)

pub returns : goal.returns
returns c = slice_eq-Decides decided c.args.list.now c.args.other.now c.eq.result c.eq.ensures
