-- The states of units: systemd(1), "Concepts".
use Rattle.std.specs.Prelude.{◌≡◌, ◌≢◌, ℕ, ◌≤◌, IsSome, List, length, map, take, drop, Some, unwrap_or}
use Rattle.std.specs.Coded.{Coded, coded_list, coded_ℕ}
use Rattle.std.specs.FinMap.{FinMap, get, insert, remove, entries, from_entries}
use Rattle.std.specs.FinMap as map_of
use Rattle.std.specs.List.{AllByRecursion}
use Rattle.std.specs.List.Sorted.{IsStrictlySortedBy}
use Rattle.std.specs.declared.cmp.Ordering.TheVariants.{Less}
use Rattle.switch_names.specs.UnitName.{IsUnitName}
use Rattle.host_trait.specs.Bytes.{bytes_cmp}
use Rattle.host_trait.specs.declared.unit_state.State.{State}
use Rattle.host_trait.specs.declared.unit_state.State.TheVariants.{Active, Inactive, Failed}
use Rattle.host_trait.specs.declared.unit_state.UnitState.{UnitState}

-- the states of the units that aren't inactive
abbrev pub UnitStates : Type 0
UnitStates = FinMap bytes_cmp State

abbrev pub states_code : Coded State → Coded UnitStates
states_code state = map_of.code (coded_list coded_ℕ) state

-- a unit that isn't listed is inactive
abbrev pub state_of : UnitStates → List ℕ → State
state_of states unit = unwrap_or (get states unit) Inactive

-- each unit is in the same state by both
abbrev pub AreAlike : UnitStates → UnitStates → Type 0
AreAlike states other = (unit : List ℕ) → state_of states unit ≡ state_of other unit

-- the states with one unit in this one
abbrev pub with_state : List ℕ → State → UnitStates → UnitStates
with_state unit Inactive states = remove states unit
with_state unit Active states = insert states unit Active
with_state unit Failed states = insert states unit Failed

-- each unit that is listed has a unit's name and isn't inactive
pub record AreStates (states : UnitStates) : Type 0 where
  pub names : (unit : List ℕ) → IsSome (get states unit) → IsUnitName unit
  pub others : (unit : List ℕ) → get states unit ≢ Some Inactive

-- the units in order with their states
abbrev pub listed_states : UnitStates → List UnitState
listed_states states = map (λ e. record { unit = e.0; state = e.1 }) (entries states)

-- the states that a list of units gives
abbrev pub states_of : List UnitState → UnitStates
states_of list = from_entries (map (λ one. (one.unit, one.state)) list)

abbrev pub units_of : List UnitState → List (List ℕ)
units_of list = map (λ one. one.unit) list

-- a list of units in order, none of them inactive
pub record IsSortedList (list : List UnitState) : Type 0 where
  pub sorted : IsStrictlySortedBy bytes_cmp (units_of list)
  pub names : AllByRecursion (λ one. IsUnitName one.unit) list
  pub others : AllByRecursion (λ one. one.state ≢ Inactive) list

-- the units before this place are lower than a unit, those from it on are higher
pub record IsPlaceFor (list : List UnitState) (unit : List ℕ) (at : ℕ) : Type 0 where
  pub within : at ≤ length list
  pub lower : AllByRecursion (λ other. bytes_cmp other.unit unit ≡ Less) (take at list)
  pub higher : AllByRecursion (λ other. bytes_cmp unit other.unit ≡ Less) (drop at list)
