-- What calls on units make of their states.
use Rattle.std.proofs.Common.{◌≡◌, ◌||◌, Bool, true, false, cond, ℕ, List, [], ◌∷◌, map, Option, None, Some, unwrap_or, if◌then◌else◌, refl, sym, ap, ◌∙◌}
use Rattle.std.specs.FinMap.{get, get-insert, get-remove}
use Rattle.host_trait.specs.declared.entry.Act.{Act}
use Rattle.host_trait.specs.declared.entry.Act.TheVariants.{Stop, Reload, Restart, Start}
use Rattle.host_trait.specs.declared.entry.Bad.{Bad}
use Rattle.host_trait.specs.declared.manager_state.ManagerState.{ManagerState}
use Rattle.host_trait.specs.declared.unit_state.State.{State}
use Rattle.host_trait.specs.declared.unit_state.State.TheVariants.{Active, Inactive, Failed}
use Rattle.host_trait.specs.Manager.{acted, is_active, is_bad, state_after}
use Rattle.host_trait.specs.States.{UnitStates, state_of, with_state}
use Rattle.host_trait.proofs.Places.{bytes_total}
use Rattle.owed_plan.specs.declared.duty.Duty.{Duty}
use Rattle.owed_plan.specs.Calls.{duty}
use Rattle.owed_plan.specs.FinalStates.{brought_by}
use Rattle.switch_names.specs.Names.{Name, has, is_name}
use Rattle.unit_stage.specs.Acts.{CanPerform, performed}
use Rattle.host_trait.proofs.NameOrder.{name_exact}

-- ---- the state of one unit

or_none : (found : Bool) (state : State) (o : Option State) → unwrap_or (cond found (Some state) o) Inactive ≡ cond found state (unwrap_or o Inactive)
or_none true state o = refl
or_none false state o = refl

or_gone : (found : Bool) (o : Option State) → unwrap_or (cond found None o) Inactive ≡ cond found Inactive (unwrap_or o Inactive)
or_gone true o = refl
or_gone false o = refl

-- the state of a unit where one of them has got another state
pub state_with : (states : UnitStates) (one : Name) (state : State) (unit : Name) → state_of (with_state one state states) unit ≡ (if is_name unit one then state else state_of states unit)
state_with states one Active unit = ap (λ o. unwrap_or o Inactive) (get-insert bytes_total states one Active unit) ∙ or_none (is_name unit one) Active (get states unit)
state_with states one Failed unit = ap (λ o. unwrap_or o Inactive) (get-insert bytes_total states one Failed unit) ∙ or_none (is_name unit one) Failed (get states unit)
state_with states one Inactive unit = ap (λ o. unwrap_or o Inactive) (get-remove bytes_total states one unit) ∙ or_gone (is_name unit one) (get states unit)

-- the state to which an act brings a unit that is in this one
abbrev pub brought_from : Act → List ℕ → List Bad → Name → State → State
brought_from Stop loaded bad unit state = Inactive
brought_from Reload loaded bad unit state = state
brought_from Restart loaded bad unit state = brought_by loaded bad unit
brought_from Start loaded bad unit state = if is_active state then Active else brought_by loaded bad unit

acted_on : (act : Act) (unit : Name) (manager : ManagerState) → state_after act unit manager ≡ brought_from act manager.loaded manager.bad unit (state_of manager.states unit)
acted_on Stop unit manager = refl
acted_on Reload unit manager = refl
acted_on Restart unit manager = refl
acted_on Start unit manager = refl

started_again : (is : Bool) (state : State) → (if is_active (if is_active state then Active else if is then Failed else Active) then Active else if is then Failed else Active) ≡ (if is_active state then Active else if is then Failed else Active)
started_again is Active = refl
started_again true Inactive = refl
started_again false Inactive = refl
started_again true Failed = refl
started_again false Failed = refl

-- an act that is done twice brings a unit to the same state
twice : (act : Act) (loaded : List ℕ) (bad : List Bad) (unit : Name) (state : State) →
    brought_from act loaded bad unit (brought_from act loaded bad unit state) ≡ brought_from act loaded bad unit state
twice Stop loaded bad unit state = refl
twice Reload loaded bad unit state = refl
twice Restart loaded bad unit state = refl
twice Start loaded bad unit state = started_again (is_bad bad loaded unit) state

-- ---- the states after an act on each of these units

again : (more : Bool) (state there : State) → there ≡ state → (if more then there else state) ≡ state
again true state there same = same
again false state there same = refl

module _ (act : Name → Act) where
  abbrev calls_on : List Name → List Duty
  calls_on names = map (λ unit. duty (act unit) unit) names

  module _ (name : Name) (manager : ManagerState) (unit : Name) where
    abbrev was : State
    was = state_of manager.states unit

    abbrev to : State → State
    to state = brought_from (act unit) manager.loaded manager.bad unit state

    -- a unit is another than the one on which the act is done
    passed : is_name unit name ≡ false → state_of (acted (act name) name manager).states unit ≡ was
    passed other =
        state_with manager.states name (state_after (act name) name manager) unit ∙ ap (λ b. if b then state_after (act name) name manager else was) other

    -- or it is that one
    reached : is_name unit name ≡ true → state_of (acted (act name) name manager).states unit ≡ to was
    reached is =
        state_with manager.states name (state_after (act name) name manager) unit ∙ ap (λ b. if b then state_after (act name) name manager else was) is
        ∙ acted_on (act name) name manager
        ∙ ap (λ n. brought_from (act n) manager.loaded manager.bad n (state_of manager.states n)) (sym (name_exact unit name is))

  -- a unit is brought to its state once, however often it stands among them
  acts_on : (names : List Name) (manager : ManagerState) (unit : Name) →
      state_of (performed (calls_on names) manager).states unit ≡ (if has names unit then to unit manager unit (was unit manager unit) else was unit manager unit)
  acts_on [] manager unit = refl
  acts_on (name ∷ names) manager unit =
      elim (is_name unit name) as (λ b. is_name unit name ≡ b →
      state_of (performed (calls_on names) (acted (act name) name manager)).states unit
      ≡ (if b || has names unit then to name manager unit (was name manager unit) else was name manager unit)) [
        | true ↦ λ is.
            acts_on names (acted (act name) name manager) unit
            ∙ ap (λ state. if has names unit then to name manager unit state else state) (reached name manager unit is)
            ∙ again (has names unit) (to name manager unit (was name manager unit)) (to name manager unit (to name manager unit (was name manager unit)))
            (twice (act unit) manager.loaded manager.bad unit (was name manager unit))
        | false ↦ λ other.
            acts_on names (acted (act name) name manager) unit
            ∙ ap (λ state. if has names unit then to name manager unit state else state) (passed name manager unit other)
      ] refl

  -- the same where these definitions are loaded, these units are bad and the unit is in this state
  pub brought_to : (names : List Name) (manager : ManagerState) (loaded : List ℕ) (bad : List Bad) (unit : Name) (state : State) →
      manager.loaded ≡ loaded → manager.bad ≡ bad → state_of manager.states unit ≡ state →
      state_of (performed (calls_on names) manager).states unit ≡ (if has names unit then brought_from (act unit) loaded bad unit state else state)
  brought_to names manager loaded bad unit state same_loaded same_bad same_state =
      acts_on names manager unit ∙ (λ i. if has names unit then brought_from (act unit) (same_loaded i) (same_bad i) unit (same_state i) else same_state i)

  -- they can be performed where each unit that is to reload is active
  pub can_act : (names : List Name) (manager : ManagerState) → ((unit : Name) → act unit ≡ Reload → state_of manager.states unit ≡ Active) → CanPerform (calls_on names) manager
  can_act [] manager active = tt
  can_act (name ∷ names) manager active = (active name, can_act names (acted (act name) name manager) stays)
    where
      stays : (unit : Name) → act unit ≡ Reload → state_of (acted (act name) name manager).states unit ≡ Active
      stays unit reload =
          elim (is_name unit name) as (λ b. is_name unit name ≡ b → state_of (acted (act name) name manager).states unit ≡ Active) [
            | true ↦ λ is.
                reached name manager unit is ∙ ap (λ a. brought_from a manager.loaded manager.bad unit (state_of manager.states unit)) reload ∙ active unit reload
            | false ↦ λ other. passed name manager unit other ∙ active unit reload
          ] refl

-- ---- each kind of call

module _ (names : List Name) (manager : ManagerState) (unit : Name) where
  -- the units that are stopped are inactive
  pub after_stops : state_of (performed (map (duty Stop) names) manager).states unit ≡ (if has names unit then Inactive else state_of manager.states unit)
  after_stops = acts_on (λ n. Stop) names manager unit

  -- the units that are restarted are active or have failed
  pub after_restarts :
      state_of (performed (map (duty Restart) names) manager).states unit ≡ (if has names unit then brought_by manager.loaded manager.bad unit else state_of manager.states unit)
  after_restarts = acts_on (λ n. Restart) names manager unit

  -- the units that are started stay active, become so or have failed
  pub after_starts :
      state_of (performed (map (duty Start) names) manager).states unit
      ≡ (if has names unit then if is_active (state_of manager.states unit) then Active else brought_by manager.loaded manager.bad unit else state_of manager.states unit)
  after_starts = acts_on (λ n. Start) names manager unit

pub can_stop : (names : List Name) (manager : ManagerState) → CanPerform (map (duty Stop) names) manager
can_stop names manager = can_act (λ n. Stop) names manager (λ unit other. absurd cc)

pub can_restart : (names : List Name) (manager : ManagerState) → CanPerform (map (duty Restart) names) manager
can_restart names manager = can_act (λ n. Restart) names manager (λ unit other. absurd cc)

pub can_start : (names : List Name) (manager : ManagerState) → CanPerform (map (duty Start) names) manager
can_start names manager = can_act (λ n. Start) names manager (λ unit other. absurd cc)
