-- What is owed as the link moves, and what stops leave of the final states: NixOS manual, "Unit handling".
use Rattle.std.specs.Prelude.{◌≡◌, ◌↔◌, ℕ, List}
use Rattle.host_trait.specs.declared.entry.Bad.{Bad}
use Rattle.host_trait.specs.declared.unit_state.State.{State}
use Rattle.log_text.specs.declared.lists.Lists.{Lists}
use Rattle.log_text.specs.declared.lists.Which.{Which}
use Rattle.owed_plan.specs.declared.owed.Owed.{Owed}
use Rattle.owed_plan.specs.FinalStates.{final_state}
use Rattle.owed_plan.specs.Law.{AfterStops, IsSound, stopped}
use Rattle.owed_plan.specs.Owed.{IsOwed, Stops, Waits}
use Rattle.owed_plan.specs.Pull.{Pulled}
use Rattle.owed_plan.specs.Systems.{Systems, Texts, systems_of}
use Rattle.switch_names.specs.Names.{Name}

-- the same is owed as before, but that no unit is stopped
pub record SameAfterLink (first after : Systems) (states then_ : Name → State) (lists kept : Lists) : Type 0 where
  pub pull : (unit : Name) → Pulled after then_ kept unit ↔ Pulled first states lists unit
  pub stops : (unit : Name) → ¬ Stops after then_ kept unit
  pub others : (which : Which) (unit : Name) → Waits after then_ kept which unit ↔ Waits first states lists which unit

-- as the link moves, after all stops and with all lists recorded, the same is owed, but that no unit is stopped
abbrev pub LinkLaw : Type 0
LinkLaw =
    (old new : Texts) (wants : Name → List Name) (states : Name → State) (lists : Lists) (owed : Owed) →
    IsSound (systems_of old new wants) → IsOwed (systems_of old new wants) states lists owed →
    SameAfterLink (systems_of old new wants) (systems_of new new wants) states (stopped owed.stops states) lists owed.lists

-- after some of the stops, and with the lists recorded, the final states are the same
abbrev pub StopsFinalLaw : Type 0
StopsFinalLaw =
    AfterStops (λ systems states lists owed later kept.
    (next : Owed) → IsOwed systems later kept next → (loaded : List ℕ) (bad : List Bad) (unit : Name) → final_state next loaded bad later unit ≡ final_state owed loaded bad states unit)
