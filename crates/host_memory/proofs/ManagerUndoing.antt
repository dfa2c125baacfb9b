-- How a history goes on by each act of the manager: what undoes the act is in its record.
use Rattle.std.proofs.Common.{◌≡◌, ℕ, ◌-◌, cond, List, [], ◌∷◌, ◌++◌, length, take, Result, OnOk, OnErr, refl, sym, ap, subst, ◌∙◌, inl, inr, arith}
use Rattle.std.specs.FinMap.{get}
use Rattle.std.specs.Ordering.{eq_by_cmp}
use Rattle.std.proofs.lemmas.List.{length-append, take_at}
use Rattle.std.proofs.lemmas.Result.{on_err_weaker, on_ok_weaker}
use Rattle.host_memory.proofs.Histories.{recorded}
use Rattle.host_memory.specs.declared.history.DoneCall.TheVariants.{Performed, Halted, Loaded}
use Rattle.host_memory.specs.declared.history.History.{History}
use Rattle.host_memory.specs.History.{GoesOn, undone, without_last}
use Rattle.host_trait.proofs.Places.{alike, same_or_other, itself}
use Rattle.host_trait.proofs.StateMaps.{after_with, listed, listed_again}
use Rattle.host_trait.specs.Change.{finished, IsMoment, Perform, DaemonReload, definitions_place, loaded_from}
use Rattle.host_trait.specs.declared.entry.Act.{Act}
use Rattle.host_trait.specs.declared.entry.Act.TheVariants.{Restart}
use Rattle.host_trait.specs.declared.manager_state.ManagerState.{ManagerState}
use Rattle.host_trait.specs.declared.unit_state.State.{State}
use Rattle.host_trait.specs.declared.unit_state.State.TheVariants.{Inactive}
use Rattle.host_trait.specs.Manager.{acted, halted, loading, state_after}
use Rattle.host_trait.specs.States.{AreStates, UnitStates, state_of, with_state}
use Rattle.host_trait.specs.World.{WorldState, bytes_cmp, with_manager}

-- a unit is put back into its state
unit_back : (states : UnitStates) (unit : List ℕ) (state : State) → AreStates states → with_state unit (state_of states unit) (with_state unit state states) ≡ states
unit_back states unit state are = alike _ _ (λ q.
    after_with (with_state unit state states) unit (state_of states unit) q
    ∙ ap (cond (eq_by_cmp bytes_cmp q unit) (listed (state_of states unit))) (after_with states unit state q)
    ∙ elim (same_or_other q unit) [
      | inl same ↦
          subst (λ p. cond (eq_by_cmp bytes_cmp p unit) (listed (state_of states unit)) (cond (eq_by_cmp bytes_cmp p unit) (listed state) (get states p)) ≡ get states p) (sym same)
          (ap (λ b. cond b (listed (state_of states unit)) (cond b (listed state) (get states unit))) (itself unit) ∙ listed_again (get states unit) (are.others unit))
      | inr other ↦ ap (λ b. cond b (listed (state_of states unit)) (cond b (listed state) (get states q))) other
    ])

pub shorter : {X : Type 0} (items : List X) (x : X) → without_last (items ++ x ∷ []) ≡ items
shorter items x =
    let long = length-append items (x ∷ []) in
    let size : length (items ++ x ∷ []) - 1 ≡ length items = omega arith in
    ap (λ n. take n (items ++ x ∷ [])) size ∙ take_at items (x ∷ []) (length items) refl

-- a manager that was taken out of a world and put back after a step
module _
    {T E : Type 0} (result : Result T E) (old middle new : WorldState) (empty was then : ManagerState)
  where
    stepped_to : (after : ManagerState) → was ≡ old.manager → middle ≡ with_manager empty old → new ≡ with_manager then middle → then ≡ after → new ≡ with_manager after old
    stepped_to after taken out back is = back ∙ ap (λ (w : WorldState). with_manager then w) out ∙ ap (λ (m : ManagerState). with_manager m old) is

    pub stepped :
        (done : ManagerState → ManagerState) → was ≡ old.manager → middle ≡ with_manager empty old → new ≡ with_manager then middle →
        OnOk result (then ≡ done was) → OnOk result (new ≡ with_manager (done old.manager) old)
    stepped done taken out back is = on_ok_weaker result (λ now. stepped_to (done old.manager) taken out back (now ∙ ap done taken)) is

    pub not_stepped :
        was ≡ old.manager → middle ≡ with_manager empty old → new ≡ with_manager then middle →
        OnErr result (then ≡ was) → OnErr result (new ≡ old)
    not_stepped taken out back is = on_err_weaker result (λ now. stepped_to old.manager taken out back (now ∙ taken)) is

-- what was done to a unit is undone
pub act_undone :
    (act : Act) (unit : List ℕ) (was : State) (w : WorldState) →
    was ≡ state_of w.manager.states unit → AreStates w.manager.states → undone (Performed unit was) (finished (Perform act unit) w) ≡ w
act_undone act unit was w is are =
    let states = unit_back w.manager.states unit (state_after act unit w.manager) are in
    let journal = shorter w.manager.journal (record { unit = unit; act = act; loaded = w.manager.loaded }) in
    ap (λ s. undone (Performed unit s) (finished (Perform act unit) w)) is ∙ (λ i. record w { manager = record w.manager { states = states i; journal = journal i } })

module _ (old new : History) where
  -- something was done to a unit
  pub performed :
      (act : Act) (unit name : List ℕ) (was : State) (manager : ManagerState) →
      name ≡ unit → was ≡ state_of old.world.manager.states unit → AreStates old.world.manager.states →
      new.world ≡ with_manager manager old.world → manager ≡ acted act unit old.world.manager →
      new.calls.items ≡ old.calls.items ++ Performed name was ∷ [] → GoesOn old new (IsMoment (Perform act unit))
  performed act unit name was manager same is are now done grown =
      let after : new.world ≡ finished (Perform act unit) old.world = now ∙ ap (λ (m : ManagerState). with_manager m old.world) done in
      recorded old new (Performed name was) (IsMoment (Perform act unit)) grown
      (ap (undone (Performed name was)) after ∙ ap (λ n. undone (Performed n was) (finished (Perform act unit) old.world)) same ∙ act_undone act unit was old.world is are)
      (inr (inl after))

  -- a unit was stopped half way through a restart
  pub halved :
      (unit name : List ℕ) (was : State) (manager : ManagerState) →
      name ≡ unit → was ≡ state_of old.world.manager.states unit → AreStates old.world.manager.states →
      new.world ≡ with_manager manager old.world → manager ≡ halted unit old.world.manager →
      new.calls.items ≡ old.calls.items ++ Halted name was ∷ [] → GoesOn old new (IsMoment (Perform Restart unit))
  halved unit name was manager same is are now done grown =
      let after : new.world ≡ with_manager (halted unit old.world.manager) old.world = now ∙ ap (λ (m : ManagerState). with_manager m old.world) done in
      let states = unit_back old.world.manager.states unit Inactive are in
      recorded old new (Halted name was) (IsMoment (Perform Restart unit)) grown
      (ap (undone (Halted name was)) after ∙ (λ i. undone (Halted (same i) (is i)) (with_manager (halted unit old.world.manager) old.world))
      ∙ (λ i. record old.world { manager = record old.world.manager { states = states i } }))
      (inr (inr after))

  -- other definitions were loaded
  pub loaded_anew :
      (was : List ℕ) (manager : ManagerState) →
      was ≡ old.world.manager.loaded → new.world ≡ with_manager manager old.world →
      manager ≡ loading (loaded_from (get old.world.leaves definitions_place)) old.world.manager →
      new.calls.items ≡ old.calls.items ++ Loaded was ∷ [] → GoesOn old new (IsMoment DaemonReload)
  loaded_anew was manager is now done grown =
      let after : new.world ≡ finished DaemonReload old.world = now ∙ ap (λ (m : ManagerState). with_manager m old.world) done in
      recorded old new (Loaded was) (IsMoment DaemonReload) grown
      (ap (undone (Loaded was)) after ∙ (λ i. undone (Loaded (is i)) (finished DaemonReload old.world)))
      (inr (inl after))
