-- A queue of jobs on distinct units: one that is added at its end, and one that is taken out.
use Rattle.std.proofs.Common.{◌≡◌, ◌||◌, Bool, true, false, cond, List, [], ◌∷◌, ◌++◌, IsSome, Some, refl, sym, ap, subst, ◌∙◌, inl, inr}
use Rattle.std.specs.FinMap.{get}
use Rattle.host_trait.specs.declared.manager_state.ManagerState.{ManagerState}
use Rattle.host_trait.specs.declared.unit_state.State.{State}
use Rattle.host_trait.specs.declared.unit_state.State.TheVariants.{Active, Inactive, Failed}
use Rattle.host_trait.specs.Manager.{state_after}
use Rattle.host_trait.specs.States.{AreStates, UnitStates, state_of, with_state}
use Rattle.host_trait.specs.Waiting.{StaysWithin}
use Rattle.host_trait.proofs.Places.{same_or_other}
use Rattle.host_trait.proofs.StateMaps.{after_with, listed}
use Rattle.switch_names.specs.Names.{Name, has, is_name}
use Rattle.switch_names.specs.UnitName.{IsUnitName}
use Rattle.switch_names.proofs.Names.{name_turned}
use Rattle.job_host.specs.Jobs.{AddsAtMost}
use Rattle.job_host.specs.Settled.{AreDistinct, Job, ended, settled, units_in}
use Rattle.job_host.proofs.SettledLemmas.{elsewhere, neither, or_false, or_turned}
use Rattle.job_host.proofs.WaitLemmas.{or_true}

-- the units of a queue with a job in its middle
has_middle : (front : List Job) (job : Job) (back : List Job) (unit : Name) → has (units_in (front ++ job ∷ back)) unit ≡ (is_name unit job.unit || has (units_in (front ++ back)) unit)
has_middle [] job back unit = refl
has_middle (one ∷ front) job back unit =
    ap (λ b. is_name unit one.unit || b) (has_middle front job back unit) ∙ or_turned (is_name unit one.unit) (is_name unit job.unit) (has (units_in (front ++ back)) unit)

or_none : (b : Bool) → (b || false) ≡ b
or_none true = refl
or_none false = refl

or_grouped : (a b c : Bool) → (a || (b || c)) ≡ ((a || b) || c)
or_grouped true b c = refl
or_grouped false b c = refl

-- and with one at its end
has_last : (jobs : List Job) (job : Job) (unit : Name) → has (units_in (jobs ++ job ∷ [])) unit ≡ (has (units_in jobs) unit || is_name unit job.unit)
has_last [] job unit = or_none (is_name unit job.unit)
has_last (one ∷ jobs) job unit =
    ap (λ b. is_name unit one.unit || b) (has_last jobs job unit) ∙ or_grouped (is_name unit one.unit) (has (units_in jobs) unit) (is_name unit job.unit)

-- no job before one is on its unit
pub before_free : (front : List Job) (job : Job) (back : List Job) → AreDistinct (front ++ job ∷ back) → has (units_in front) job.unit ≡ false
before_free [] job back are = refl
before_free (one ∷ front) job back are =
    let parts = neither (is_name one.unit job.unit) (has (units_in (front ++ back)) one.unit) (sym (has_middle front job back one.unit) ∙ are.0) in
    or_false (is_name job.unit one.unit) (has (units_in front) job.unit) (name_turned job.unit one.unit ∙ parts.0) (before_free front job back are.1)

pub distinct_without : (front : List Job) (job : Job) (back : List Job) → AreDistinct (front ++ job ∷ back) → AreDistinct (front ++ back)
distinct_without [] job back are = are.1
distinct_without (one ∷ front) job back are =
    let parts = neither (is_name one.unit job.unit) (has (units_in (front ++ back)) one.unit) (sym (has_middle front job back one.unit) ∙ are.0) in
    (parts.1, distinct_without front job back are.1)

pub distinct_with : (jobs : List Job) (job : Job) → AreDistinct jobs → has (units_in jobs) job.unit ≡ false → AreDistinct (jobs ++ job ∷ [])
distinct_with [] job are free = (refl, tt)
distinct_with (one ∷ jobs) job are free =
    let parts = neither (is_name job.unit one.unit) (has (units_in jobs) job.unit) free in (
      has_last jobs job one.unit ∙ or_false (has (units_in jobs) one.unit) (is_name one.unit job.unit) are.0 (name_turned one.unit job.unit ∙ parts.0),
      distinct_with jobs job are.1 parts.1,
    )

pub waits_without : (front : List Job) (job : Job) (back : List Job) → StaysWithin (units_in (front ++ job ∷ back)) (units_in (front ++ back))
waits_without front job back unit waits = has_middle front job back unit ∙ or_true (is_name unit job.unit) (has (units_in (front ++ back)) unit) waits

pub waits_with : (jobs : List Job) (job : Job) → AddsAtMost job.unit (units_in jobs) (units_in (jobs ++ job ∷ []))
waits_with jobs job other waits = sym (has_last jobs job other) ∙ waits

-- where no unit is waited for there is no job
pub no_jobs : (jobs : List Job) → units_in jobs ≡ [] → jobs ≡ []
no_jobs [] none = refl
no_jobs (job ∷ jobs) none = absurd (let no : job.unit ∷ units_in jobs ≡ [] = none in cc)

-- a unit of which no job waits is in the same state once all have ended
pub state_stays : (jobs : List Job) (manager : ManagerState) (unit : Name) → has (units_in jobs) unit ≡ false → state_of (settled jobs manager).states unit ≡ state_of manager.states unit
state_stays [] manager unit free = refl
state_stays (job ∷ jobs) manager unit free =
    let parts = neither (is_name unit job.unit) (has (units_in jobs) unit) free in
    state_stays jobs (ended job manager) unit parts.1 ∙ elsewhere manager.states job.unit (state_after job.act job.unit manager) unit parts.0

-- and what is loaded is the same
pub loaded_stays : (jobs : List Job) (manager : ManagerState) → (settled jobs manager).loaded ≡ manager.loaded
loaded_stays [] manager = refl
loaded_stays (job ∷ jobs) manager = loaded_stays jobs (ended job manager)

not_inactive : (state : State) → listed state ≡ Some Inactive → ⊥
unfolding listed
not_inactive Active is = cc
not_inactive Inactive is = cc
not_inactive Failed is = cc

-- states stay in one form
pub states_with : (states : UnitStates) (unit : Name) (state : State) → AreStates states → IsUnitName unit → AreStates (with_state unit state states)
states_with states unit state are named = record {
  names = λ q there. elim (same_or_other q unit) [
    | inl same ↦ subst IsUnitName (sym same) named
    | inr other ↦ are.names q (subst (λ o. IsSome o) (after_with states unit state q ∙ ap (λ b. cond b (listed state) (get states q)) other) there)
  ];
  others = λ q is. elim (is_name q unit) as (λ b. is_name q unit ≡ b → ⊥) [
    | true ↦ λ same. not_inactive state (sym (after_with states unit state q ∙ ap (λ b. cond b (listed state) (get states q)) same) ∙ is)
    | false ↦ λ other. are.others q (sym (after_with states unit state q ∙ ap (λ b. cond b (listed state) (get states q)) other) ∙ is)
  ] refl;
}
