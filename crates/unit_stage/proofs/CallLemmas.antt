-- Calls on units, one after the other, and what a cut may leave of them.
use Rattle.std.proofs.Common.{◌≡◌, ℕ, ◌+◌, List, [], ◌∷◌, ◌++◌, map, take, Some, refl, sym, ap, ◌∙◌, subst, ⊎_elim, zero, suc}
use Rattle.std.proofs.lemmas.List.{append-nil, append_assoc, take_more}
use Rattle.std.proofs.lemmas.Option.{get_or_from_slice_get, slice_get_within}
use Rattle.std.specs.List.{slice_get}
use Rattle.host_trait.specs.declared.entry.Act.{Act}
use Rattle.host_trait.specs.declared.entry.Act.TheVariants.{Stop, Reload, Restart, Start}
use Rattle.host_trait.specs.declared.manager_state.ManagerState.{ManagerState}
use Rattle.host_trait.specs.declared.unit_state.State.TheVariants.{Active}
use Rattle.host_trait.specs.Change.{Perform, finished, IsMiddle, IsMoment}
use Rattle.host_trait.specs.Host.{HostState, Becomes, Passes}
use Rattle.host_trait.specs.Manager.{acted, halted}
use Rattle.host_trait.specs.States.{state_of}
use Rattle.host_trait.specs.World.{WorldState, with_manager}
use Rattle.host_trait.proofs.Moments.{goes_on, leads_then}
use Rattle.owed_plan.specs.declared.duty.Duty.{Duty}
use Rattle.owed_plan.specs.Calls.{duty}
use Rattle.unit_stage.specs.Acts.{CanPerform, IsPerforming, entry_of, performed, with_calls}
use Rattle.switch_names.specs.Names.{Name}

-- some calls, and then more
pub performed-append : (calls more : List Duty) (manager : ManagerState) → performed (calls ++ more) manager ≡ performed more (performed calls manager)
performed-append [] more manager = refl
performed-append (call ∷ calls) more manager = performed-append calls more (acted call.act call.unit manager)

-- calls load nothing
pub same_loaded : (calls : List Duty) (manager : ManagerState) → (performed calls manager).loaded ≡ manager.loaded
same_loaded [] manager = refl
same_loaded (call ∷ calls) manager = same_loaded calls (acted call.act call.unit manager)

-- calls leave it as it is what fails
pub same_bad : (calls : List Duty) (manager : ManagerState) → (performed calls manager).bad ≡ manager.bad
same_bad [] manager = refl
same_bad (call ∷ calls) manager = same_bad calls (acted call.act call.unit manager)

-- each call is entered
pub entered : (calls : List Duty) (manager : ManagerState) → (performed calls manager).journal ≡ manager.journal ++ map (entry_of manager.loaded) calls
entered [] manager = sym (append-nil manager.journal)
entered (call ∷ calls) manager =
    entered calls (acted call.act call.unit manager)
    ∙ append_assoc manager.journal (entry_of manager.loaded call ∷ []) (map (entry_of manager.loaded) calls)

-- calls that can be made, and then more that can be made after them
pub can-append : (calls more : List Duty) (manager : ManagerState) → CanPerform calls manager → CanPerform more (performed calls manager) → CanPerform (calls ++ more) manager
can-append [] more manager can then = then
can-append (call ∷ calls) more manager can then = (can.0, can-append calls more (acted call.act call.unit manager) can.1 then)

-- a reload finds its unit active when its turn comes
active_in_turn : (calls : List Duty) (count : ℕ) (call : Duty) (manager : ManagerState) → CanPerform calls manager → slice_get calls count ≡ Some call →
    call.act ≡ Reload → state_of (performed (take count calls) manager).states call.unit ≡ Active
active_in_turn [] count call manager can is = absurd cc
active_in_turn (first ∷ calls) zero call manager can is =
    let same : first ≡ call = cc in subst (λ (one : Duty). one.act ≡ Reload → state_of manager.states one.unit ≡ Active) same can.0
active_in_turn (first ∷ calls) (suc count) call manager can is = active_in_turn calls count call (acted first.act first.unit manager) can.1 is

module _ (calls : List Duty) (count : ℕ) (w v : WorldState) (so_far : v ≡ with_calls (take count calls) w) where
  -- the next call can be made
  pub ready_in_turn : (call : Duty) → CanPerform calls w.manager → slice_get calls count ≡ Some call → call.act ≡ Reload → state_of v.manager.states call.unit ≡ Active
  ready_in_turn call can is reload = ap (λ (x : WorldState). state_of x.manager.states call.unit) so_far ∙ active_in_turn calls count call w.manager can is reload

  -- the world after one more call
  one_more : (call : Duty) (u : WorldState) → slice_get calls count ≡ Some call → u ≡ finished (Perform call.act call.unit) v → u ≡ with_calls (take (count + 1) calls) w
  one_more call u is new =
      let more : take (count + 1) calls ≡ take count calls ++ call ∷ [] =
      take_more calls count call (slice_get_within calls count call is) ∙ ap (λ c. take count calls ++ c ∷ []) (get_or_from_slice_get calls count call call is) in
      new ∙ ap (finished (Perform call.act call.unit)) so_far
      ∙ sym (ap (λ cs. with_calls cs w) more ∙ ap (λ m. with_manager m w) (performed-append (take count calls) (call ∷ []) w.manager))

  -- in the middle of a call
  within : (act : Act) (unit : Name) (m : WorldState) → slice_get calls count ≡ Some (duty act unit) → IsMiddle (Perform act unit) v m → IsPerforming calls w m
  within Stop unit m is middle = absurd middle
  within Reload unit m is middle = absurd middle
  within Start unit m is middle = absurd middle
  within Restart unit m is middle = IsPerforming.Within count unit is (middle ∙ ap (λ (x : WorldState). with_manager (halted unit x.manager) x) so_far)

  -- a moment of one more call
  moment_in_turn : (call : Duty) (m : WorldState) → slice_get calls count ≡ Some call → IsMoment (Perform call.act call.unit) v m → IsPerforming calls w m
  moment_in_turn call m is moment =
      ⊎_elim (λ before. IsPerforming.After count (before ∙ so_far))
      (λ later. ⊎_elim (λ after. IsPerforming.After (count + 1) (one_more call m is after)) (λ middle. within call.act call.unit m is middle) later)
      moment

module _ {start now then : HostState} (calls : List Duty) (count : ℕ) (call : Duty) (there : slice_get calls count ≡ Some call) where
  -- the way of the calls so far and of the next
  pub way_on : Passes start now (IsPerforming calls) → Becomes start now (with_calls (take count calls)) → Passes now then (IsMoment (Perform call.act call.unit)) →
      Passes start then (IsPerforming calls)
  way_on way made next =
      goes_on way made next (IsPerforming calls) (λ w m is moment. moment) (λ w v m is is_v so_far moment. moment_in_turn calls count w v so_far call m there moment)

  -- the calls so far and the next are made
  pub made_on : Becomes start now (with_calls (take count calls)) → Becomes now then (finished (Perform call.act call.unit)) → Becomes start then (with_calls (take (count + 1) calls))
  made_on made next =
      leads_then made next (λ w u. u ≡ with_calls (take (count + 1) calls) w) (λ w v u is is_v so_far new. one_more calls count w v so_far call u there new)
