-- The table of final states, by the state after the stops.
use Rattle.std.proofs.Common.{◌≡◌, ◌≢◌, ◌&&◌, Bool, true, false, not, if◌then◌else◌, refl}
use Rattle.host_trait.specs.declared.unit_state.State.{State}
use Rattle.host_trait.specs.declared.unit_state.State.TheVariants.{Active, Inactive, Failed}
use Rattle.host_trait.specs.Manager.{is_active}

abbrev pub final_of : Bool → Bool → State → State → State
final_of renewed listed was to = if renewed then to else if listed then if is_active was then Active else to else was

-- the table, row by row, is this
pub final_by : (renewed listed stops : Bool) (was to : State) →
    (if renewed then to else if listed && is_active was && not stops then Active else if listed then to else if stops then Inactive else was)
    ≡ final_of renewed listed (if stops then Inactive else was) to
final_by true listed stops was to = refl
final_by false true true Active to = refl
final_by false true true Inactive to = refl
final_by false true true Failed to = refl
final_by false true false Active to = refl
final_by false true false Inactive to = refl
final_by false true false Failed to = refl
final_by false false true was to = refl
final_by false false false was to = refl

-- what is brought to its state, or stopped again and listed, stays there
pub final_brought : (renewed listed stops : Bool) (now to : State) → now ≡ to → (stops ≡ true → listed ≡ true) → final_of renewed listed (if stops then Inactive else now) to ≡ to
final_brought true listed stops now to is again = refl
final_brought false true true now to is again = refl
final_brought false true false Active to is again = is
final_brought false true false Inactive to is again = refl
final_brought false true false Failed to is again = refl
final_brought false false true now to is again = absurd (cc (again refl))
final_brought false false false now to is again = is

-- what is yet to be brought to its state will be
pub final_to_bring : (stops : Bool) (now to : State) → (now ≡ Active → now ≡ to) → final_of false true (if stops then Inactive else now) to ≡ to
final_to_bring true now to is = refl
final_to_bring false Active to is = is refl
final_to_bring false Inactive to is = refl
final_to_bring false Failed to is = refl

-- what is active and isn't stopped stays so
pub final_active : (listed : Bool) (now to : State) → now ≡ Active → final_of false listed now to ≡ Active
final_active true Active to is = refl
final_active true Inactive to is = absurd cc
final_active true Failed to is = absurd cc
final_active false now to is = is

pub final_down : (was to : State) → was ≢ Active → final_of false true was to ≡ to
final_down Active to down = absurd (down refl)
final_down Inactive to down = refl
final_down Failed to down = refl
