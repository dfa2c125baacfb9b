-- Where the line of one unit stands in the text of a manager's state.
use Rattle.std.specs.Prelude.{◌≡◌, ℕ, ◌+◌, List, [], ◌∷◌, ◌++◌, length, map}
use Rattle.host_trait.specs.States.{UnitStates, listed_states, state_of, with_state}
use Rattle.host_trait.specs.declared.manager_state.ManagerState.{ManagerState}
use Rattle.host_trait.specs.declared.unit_state.State.{State}
use Rattle.host_trait.specs.declared.unit_state.State.TheVariants.{Active, Inactive, Failed}
use Rattle.host_trait.specs.declared.unit_state.UnitState.{UnitState}
use Rattle.manager_core.specs.StateText.{lines_text}
use Rattle.manager_core.specs.declared.line.Line.TheVariants as line

-- a unit as the states list it: an inactive one isn't listed
abbrev pub listed_one : List ℕ → State → List UnitState
listed_one unit Inactive = []
listed_one unit Active = record { unit = unit; state = Active } ∷ []
listed_one unit Failed = record { unit = unit; state = Failed } ∷ []

-- the units that are listed before one and after it, whichever state it is brought to
pub record AreAround (states : UnitStates) (unit : List ℕ) (front back : List UnitState) : Type 0 where
  pub now : listed_states states ≡ front ++ (listed_one unit (state_of states unit) ++ back)
  pub then : (state : State) → listed_states (with_state unit state states) ≡ front ++ (listed_one unit state ++ back)

-- the lines of what is loaded and of some units
abbrev pub first_text : List ℕ → List UnitState → List ℕ
first_text loaded units = lines_text (line.Loaded loaded ∷ map line.State units)

-- the line of a unit, where it has one
abbrev pub unit_text : List ℕ → State → List ℕ
unit_text unit state = lines_text (map line.State (listed_one unit state))

-- from one place to another in a state's text stands the line of a unit, and where it has none, it would stand there
pub record IsLineAt (manager : ManagerState) (unit : List ℕ) (from to : ℕ) : Type 0 where
  pub front : List UnitState
  pub back : List UnitState
  pub around : AreAround manager.states unit front back
  pub begins : from ≡ length (first_text manager.loaded front)
  pub ends : to ≡ from + length (unit_text unit (state_of manager.states unit))
