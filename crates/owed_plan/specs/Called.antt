-- What a switch owes after its link has moved, while it makes its calls: NixOS manual, "Unit handling".
use Rattle.std.specs.Prelude.{◌≡◌, ◌≢◌, ◌⊎◌, ℕ, Bool, true, false, IsTrue, List}
use Rattle.host_trait.specs.declared.entry.Bad.{Bad}
use Rattle.host_trait.specs.declared.unit_state.State.{State}
use Rattle.host_trait.specs.declared.unit_state.State.TheVariants.{Active, Inactive}
use Rattle.log_text.specs.declared.lists.Lists.{Lists}
use Rattle.log_text.specs.declared.lists.Which.{Which}
use Rattle.log_text.specs.Lists.{list_names}
use Rattle.owed_plan.specs.declared.owed.Owed.{Owed}
use Rattle.owed_plan.specs.FinalStates.{brought_by, final_state}
use Rattle.owed_plan.specs.Law.{IsSound, stopped}
use Rattle.owed_plan.specs.Lists.{Debt, is_listed, is_renewed, renews}
use Rattle.owed_plan.specs.Owed.{IsDue, IsOwed, Waits}
use Rattle.owed_plan.specs.Pull.{Pulled}
use Rattle.owed_plan.specs.Steady.{IsSteady}
use Rattle.owed_plan.specs.Systems.{Systems, Texts, systems_of}
use Rattle.switch_names.specs.Names.{Name, has}

-- what the calls have made of a unit so far, given the state that they bring it to, and that before them
pub data IsCalled (owed : Owed) (unit : Name) (to before now : State) : Type 0 where
  NotYet : now ≡ before → IsCalled owed unit to before now
  Brought : IsTrue (is_listed owed.lists unit) → before ≢ Active → now ≡ to → IsCalled owed unit to before now
  Renewed : IsTrue (is_renewed owed.lists unit) → now ≡ to → IsCalled owed unit to before now
  Halfway : IsTrue (is_renewed owed.lists unit) → now ≡ Inactive → IsCalled owed unit to before now

-- a unit that was called is up as it was, or brought to its state, or it is brought up anew too
abbrev pub IsGiven : Owed → Name → State → State → State → Type 0
IsGiven owed unit to before now = IsTrue (is_renewed owed.lists unit) ⊎ (before ≡ Active) ⊎ (now ≡ to)

-- a list stands as it was recorded, or no other names are left, and all its units are done with
pub data IsLeftOf (names left : List Name) (IsDone : Name → Type 0) : Type 0 where
  Stands : left ≡ names → IsLeftOf names left IsDone
  Removed : ((unit : Name) → IsTrue (has left unit) → IsTrue (has names unit)) → ((unit : Name) → IsTrue (has names unit) → IsDone unit) → IsLeftOf names left IsDone

-- a unit of a list is done with, while these lists stand: it is brought up anew, or still to be for another list, where the list asks
-- for that, and given what it waits for elsewhere
abbrev pub IsDone : Bool → Lists → Owed → Name → State → State → State → Type 0
IsDone true kept owed unit to before now = (now ≡ to) ⊎ IsTrue (is_renewed kept unit)
IsDone false kept owed unit to before now = IsGiven owed unit to before now

-- some of the calls have been made, and the lists outlive their calls
pub record AreCalled (owed : Owed) (to before now : Name → State) (kept : Lists) (is_paid : Name → Bool) : Type 0 where
  pub units : (unit : Name) → IsCalled owed unit (to unit) (before unit) (now unit)
  pub kept_lists : (which : Which) →
      IsLeftOf (list_names owed.lists which) (list_names kept which) (λ unit. IsDone (renews which) kept owed unit (to unit) (before unit) (now unit) × IsTrue (is_paid unit))

-- a unit is owed something
abbrev pub OwesUnit : Systems → (Name → State) → Lists → Name → Type 0
OwesUnit systems states lists unit = (debt : Debt) × IsDue systems states lists debt unit

-- what a moment after the link owes, by what the first world owed
pub record IsOnTheWay (first after : Systems) (states now : Name → State) (lists kept : Lists) (owed : Owed) (loaded : List ℕ) (bad : List Bad) (is_paid : Name → Bool) : Type 0 where
  pub pull : (unit : Name) → Pulled after now kept unit → Pulled first states lists unit
  pub final : (later : Owed) → IsOwed after now kept later → (unit : Name) → final_state later loaded bad now unit ≡ final_state owed loaded bad states unit
  pub owed_yet : (which : Which) (unit : Name) → Waits first states lists which unit → IsTrue (is_paid unit) ⊎ Waits after now kept which unit
  pub units : (unit : Name) → OwesUnit after now kept unit → OwesUnit first states lists unit
  pub others : (unit : Name) → ¬ OwesUnit first states lists unit → now unit ≡ states unit
  pub steady : IsSteady after now kept

-- at each moment of the calls, with the new system in the place of the old one
abbrev pub AfterLinkLaw : Type 0
AfterLinkLaw =
    (old new : Texts) (wants : Name → List Name) (states now : Name → State) (lists kept : Lists) (owed : Owed) (loaded : List ℕ) (bad : List Bad) (is_paid : Name → Bool) →
    IsSound (systems_of old new wants) → IsSteady (systems_of old new wants) states lists → IsOwed (systems_of old new wants) states lists owed →
    AreCalled owed (brought_by loaded bad) (stopped owed.stops states) now kept is_paid →
    IsOnTheWay (systems_of old new wants) (systems_of new new wants) states now lists kept owed loaded bad is_paid
