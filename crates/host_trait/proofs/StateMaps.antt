-- The states of units are in one form: what they say of each unit says all.
use Rattle.std.proofs.Common.{◌≡◌, ◌≢◌, ℕ, true, cond, List, Option, None, Some, unwrap_or, refl, sym, ap, ◌∙◌}
use Rattle.std.specs.FinMap.{get, get-insert, get-remove}
use Rattle.std.specs.Ordering.{eq_by_cmp}
use Rattle.host_trait.specs.Bytes.{bytes_cmp}
use Rattle.host_trait.specs.declared.unit_state.State.{State}
use Rattle.host_trait.specs.declared.unit_state.State.TheVariants.{Active, Inactive, Failed}
use Rattle.host_trait.specs.Manager.{is_active}
use Rattle.host_trait.specs.States.{AreAlike, AreStates, UnitStates, with_state}
use Rattle.host_trait.proofs.Places.{alike, bytes_total}

-- how a state is listed
unfoldable pub listed : State → Option State
listed Active = Some Active
listed Inactive = None
listed Failed = Some Failed

pub listed_again : (o : Option State) → o ≢ Some Inactive → listed (unwrap_or o Inactive) ≡ o
unfolding listed
listed_again None other = refl
listed_again (Some Active) other = refl
listed_again (Some Inactive) other = absurd (other refl)
listed_again (Some Failed) other = refl

-- the states with one unit in this one, unit by unit
pub after_with :
    (states : UnitStates) (unit : List ℕ) (state : State) (q : List ℕ) →
    get (with_state unit state states) q ≡ cond (eq_by_cmp bytes_cmp q unit) (listed state) (get states q)
unfolding listed
after_with states unit Active q = get-insert bytes_total states unit Active q
after_with states unit Inactive q = get-remove bytes_total states unit q
after_with states unit Failed q = get-insert bytes_total states unit Failed q

-- states that give each unit the same state are equal
pub same_states : (states other : UnitStates) → AreStates states → AreStates other → AreAlike states other → states ≡ other
same_states states other are others same = alike _ _ (λ unit.
    sym (listed_again (get states unit) (are.others unit)) ∙ ap listed (same unit) ∙ listed_again (get other unit) (others.others unit))

-- a state that tests as active is that
pub active_from_test : (state : State) → is_active state ≡ true → state ≡ Active
active_from_test Active is = refl
active_from_test Inactive is = absurd cc
active_from_test Failed is = absurd cc
