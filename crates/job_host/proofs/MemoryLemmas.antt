-- How a device in memory goes on: a host in memory that tells the world in which each job has ended.
use Rattle.std.proofs.Common.{false, drop-cons, ◌≡◌, ◌≤◌, ◌<◌, ◌⊎◌, ℕ, suc, List, [], ◌∷◌, ◌++◌, length, take, drop, get_or, IsTrue, Some, Result, IsErrOf, refl, sym, ap, subst, ◌∙◌, inl, inr, ⊎_elim, arith}
use Rattle.std.specs.List.{remove}
use Rattle.std.proofs.lemmas.List.{take-append-drop}
use Rattle.host_memory.proofs.Entering.{entered_one, stands_with}
use Rattle.host_memory.proofs.Histories.{finished_beside, passes_more, passes_still}
use Rattle.host_memory.proofs.ManagerUndoing.{act_undone}
use Rattle.host_memory.specs.declared.history.DoneCall.{DoneCall}
use Rattle.host_memory.specs.declared.history.DoneCall.TheVariants.{Performed}
use Rattle.host_memory.specs.declared.memory_host.MemoryHost.{MemoryHost}
use Rattle.host_memory.specs.History.{IsOfTree, undone}
use Rattle.host_memory.specs.MemoryHost as memory
use Rattle.host_memory.specs.MemoryHost.{GoesBeside, HasEntered, IsStill, TakesEffect, clock_of, host_with, manager_of, troubles_of}
use Rattle.host_memory.specs.Troubles.{TroublesState, is_sure, last_moment}
use Rattle.host_trait.specs.Change.{Change, IsMoment, IsSame, Perform, finished}
use Rattle.host_trait.specs.declared.entry.Act.{Act}
use Rattle.host_trait.specs.declared.manager_state.ManagerState.{ManagerState}
use Rattle.host_trait.specs.declared.tree.HostFault.{HostFault}
use Rattle.host_trait.specs.declared.tree.HostFault.TheVariants.{Device}
use Rattle.host_trait.specs.Host.{HostState, Becomes, HasCause, Passes, Told}
use Rattle.host_trait.specs.Manager.{acted}
use Rattle.host_trait.specs.Reading.{IsReading}
use Rattle.host_trait.specs.States.{AreStates, state_of}
use Rattle.host_trait.specs.World.{Leaves, WorldState, with_manager}
use Rattle.host_trait.proofs.Moments.{one_world, same_as, told_after}
use Rattle.switch_names.specs.Names.{Name, has}
use Rattle.switch_names.specs.UnitName.{IsUnitName}
use Rattle.job_host.specs.Jobs.{IsSubmitMoment}
use Rattle.job_host.specs.MemoryJobs.{settled_host}
use Rattle.job_host.specs.Settled.{AreDistinct, Job, settled, units_in}
use Rattle.host_trait.specs.Waiting.{StaysWithin}
use Rattle.job_host.proofs.QueueLemmas.{before_free, distinct_without, loaded_stays, state_stays, states_with, waits_without}
use Rattle.job_host.proofs.SettledLemmas.{end_law, submit_law}

-- what a fault of the host has for its cause, it has on the device
pub cause_of_host : {T : Type 0} (old new : MemoryHost) {result : Result T HostFault} (queue later : List Job) →
    HasCause (memory.host_of old) (memory.host_of new) result → HasCause (settled_host queue old) (settled_host later new) result
cause_of_host old new queue later cause = record {
  later = cause.later;
  rose = cause.rose;
  stays_sure = cause.stays_sure;
  never_sure = cause.never_sure;
  same_last = cause.same_last;
}

-- where nothing is to go wrong that wasn't, there is no fault of the device
pub quiet_cause : {T : Type 0} (old new : MemoryHost) (queue later : List Job) (result : Result T HostFault) →
    troubles_of new ≡ troubles_of old → (IsErrOf result Device → ⊥) → HasCause (settled_host queue old) (settled_host later new) result
quiet_cause old new queue later result same none =
    let counts = ap (λ (t : TroublesState). t.faults) same in
    record {
      later = omega (arith, counts);
      rose = λ is. absurd (none is);
      stays_sure = λ sure. subst (λ (t : TroublesState). IsTrue (is_sure t)) (sym same) sure;
      never_sure = λ sure is. none is;
      same_last = ap (λ (t : TroublesState). last_moment t.cut) same;
    }

-- what is told is so after a stretch in which nothing changes
pub told_on : {a b : HostState} {P : WorldState → Type 0} → Passes a b IsSame → Told a P → Told b P
told_on {P = P} way told = told_after way way.tells P (λ w v is same. subst P (sym same) (told.has w is))

module _ (queue : List Job) (host : MemoryHost) (P : Leaves → Type 0) where
  -- what is told of the leaves, whether jobs wait or not
  pub told_settled : Told (memory.host_of host) (λ w. P w.leaves) → Told (settled_host queue host) (λ w. P w.leaves)
  told_settled told = record { has = λ w is. subst (λ (x : WorldState). P x.leaves) (one_world _ _ _ refl is) (told.has host.history.world refl) }

  pub told_raw : Told (settled_host queue host) (λ w. P w.leaves) → Told (memory.host_of host) (λ w. P w.leaves)
  told_raw told = record { has = λ w is. subst (λ (x : WorldState). P x.leaves) (one_world _ _ _ refl is) (told.has (with_manager (settled queue (manager_of host)) host.history.world) refl) }

-- what is loaded, whether jobs wait or not
pub told_loaded : (queue : List Job) (host : MemoryHost) (text : List ℕ) → Told (memory.host_of host) (λ w. text ≡ w.manager.loaded) → Told (settled_host queue host) (λ w. text ≡ w.manager.loaded)
told_loaded queue host text told = record {
  has = λ w is.
      subst (λ (x : WorldState). text ≡ x.manager.loaded) (one_world _ _ _ refl is)
      (told.has host.history.world refl ∙ sym (loaded_stays queue (manager_of host)));
}

module _ (queue : List Job) (old new : MemoryHost) where
  -- the same manager once each job has ended
  same_settled : manager_of new ≡ manager_of old → settled queue (manager_of new) ≡ settled queue (manager_of old)
  same_settled same = ap (settled queue) same

  pub states_still : manager_of new ≡ manager_of old → AreStates (settled queue (manager_of old)).states → AreStates (settled queue (manager_of new)).states
  states_still same are = subst (λ (m : ManagerState). AreStates m.states) (sym (same_settled same)) are

  -- nothing changed
  pub still_same : IsStill old new → Passes (settled_host queue old) (settled_host queue new) IsSame
  still_same still =
      subst (λ m. Passes (settled_host queue old) (host_with m new) IsSame) (sym (same_settled (ap (λ (w : WorldState). w.manager) still.world)))
      (stands_with (settled queue (manager_of old)) old new still)

  pub still_reads : {T : Type 0} (result : Result T HostFault) → IsStill old new → IsReading (memory.host_of old) (memory.host_of new) result →
      IsReading (settled_host queue old) (settled_host queue new) result
  still_reads result still reads = record { moments = still_same still; cause = cause_of_host old new queue queue reads.cause }

  -- a call on the tree
  pub tree_moments : (change : Change) → GoesBeside change old new → Passes (settled_host queue old) (settled_host queue new) (IsMoment change)
  tree_moments change way =
      subst (λ m. Passes (settled_host queue old) (host_with m new) (IsMoment change)) (sym (same_settled way.same_manager)) (way.moments (settled queue (manager_of old)))

  pub tree_ok : (change : Change) → IsOfTree change → GoesBeside change old new → Becomes (memory.host_of old) (memory.host_of new) (finished change) →
      Becomes (settled_host queue old) (settled_host queue new) (finished change)
  tree_ok change of way becomes = record {
    to = λ w is.
        let there = becomes.to old.history.world refl in
        let after : new.history.world ≡ finished change old.history.world = one_world (Some new.history.world) _ _ refl there.1 ∙ there.2 in (
          with_manager (settled queue (manager_of new)) new.history.world,
          refl,
          (λ i. with_manager (same_settled way.same_manager i) (after i)) ∙ sym (finished_beside change of (settled queue (manager_of old)) old.history.world)
              ∙ ap (finished change) (one_world _ _ _ refl is),
        );
  }

  -- where no job waits, the world is as it is told
  pub none_wait_moments : (R : WorldState → WorldState → Type 0) → queue ≡ [] → Passes (memory.host_of old) (memory.host_of new) R → Passes (settled_host queue old) (settled_host queue new) R
  none_wait_moments R none way = subst (λ jobs. Passes (settled_host jobs old) (settled_host jobs new) R) (sym none) way

  pub none_wait_ok : (f : WorldState → WorldState) → queue ≡ [] → Becomes (memory.host_of old) (memory.host_of new) f → Becomes (settled_host queue old) (settled_host queue new) f
  none_wait_ok f none becomes = subst (λ jobs. Becomes (settled_host jobs old) (settled_host jobs new) f) (sym none) becomes

pub none_wait_told : (queue : List Job) (host : MemoryHost) (P : WorldState → Type 0) → queue ≡ [] → Told (memory.host_of host) P → Told (settled_host queue host) P
none_wait_told queue host P none told = subst (λ jobs. Told (settled_host jobs host) P) (sym none) told

pub none_wait_states : (queue : List Job) (host : MemoryHost) → queue ≡ [] → AreStates (settled queue (manager_of host)).states
none_wait_states queue host none = subst (λ jobs. AreStates (settled jobs (manager_of host)).states) (sym none) host.history.states

-- ---- the end of a job

module _ (front : List Job) (job : Job) (back : List Job) (are : AreDistinct (front ++ job ∷ back)) (old new : MemoryHost) (takes : TakesEffect job.act job.unit old new) where
  pub ended_settled : settled (front ++ back) (manager_of new) ≡ settled (front ++ job ∷ back) (manager_of old)
  ended_settled =
      ap (λ (w : WorldState). settled (front ++ back) w.manager) takes.world ∙ end_law front job back (manager_of old) (before_free front job back are)

  pub ended_same : Passes (settled_host (front ++ job ∷ back) old) (settled_host (front ++ back) new) IsSame
  ended_same =
      let same : with_manager (settled (front ++ back) (manager_of new)) new.history.world ≡ with_manager (settled (front ++ job ∷ back) (manager_of old)) old.history.world =
      (λ i. with_manager (ended_settled i) (takes.world i)) in
      passes_still _ _ _ _ IsSame _ _ _ _ _ _ takes.calls same same

-- the job at a place of the queue, as it is looked at before its end
module _ (jobs : List Job) (at : ℕ) (within : at < length jobs) (are : AreDistinct jobs) (old new : MemoryHost) (job : Job) (is_job : job ≡ get_or jobs at job) where
  parted : jobs ≡ take at jobs ++ job ∷ drop (suc at) jobs
  parted = sym (take-append-drop at jobs) ∙ ap (λ back. take at jobs ++ back) (drop-cons jobs at job within ∙ ap (λ one. one ∷ drop (suc at) jobs) (sym is_job))

  distinct_parted : AreDistinct (take at jobs ++ job ∷ drop (suc at) jobs)
  distinct_parted = subst AreDistinct parted are

  pub distinct_left : AreDistinct (remove jobs at)
  distinct_left = distinct_without (take at jobs) job (drop (suc at) jobs) distinct_parted

  pub waits_left : StaysWithin (units_in jobs) (units_in (remove jobs at))
  waits_left =
      subst (λ queue. StaysWithin (units_in queue) (units_in (remove jobs at))) (sym parted) (waits_without (take at jobs) job (drop (suc at) jobs))

  module _ (takes : TakesEffect job.act job.unit old new) where
    pub left_settled : settled (remove jobs at) (manager_of new) ≡ settled jobs (manager_of old)
    left_settled =
        ended_settled (take at jobs) job (drop (suc at) jobs) distinct_parted old new takes ∙ ap (λ queue. settled queue (manager_of old)) (sym parted)

    pub left_same : Passes (settled_host jobs old) (settled_host (remove jobs at) new) IsSame
    left_same =
        subst (λ queue. Passes (settled_host queue old) (settled_host (remove jobs at) new) IsSame) (sym parted)
        (ended_same (take at jobs) job (drop (suc at) jobs) distinct_parted old new takes)

-- ---- a submit

module _ (queue : List Job) (act : Act) (unit : Name) (free : has (units_in queue) unit ≡ false) (old new : MemoryHost) (are : AreStates (settled queue (manager_of old)).states) (enters : HasEntered act unit old new) where
  pub submitted_settled : settled (queue ++ record { act = act; unit = unit } ∷ []) (manager_of new) ≡ acted act unit (settled queue (manager_of old))
  submitted_settled =
      ap (λ (w : WorldState). settled (queue ++ record { act = act; unit = unit } ∷ []) w.manager) enters.world ∙ submit_law queue act unit (manager_of old)

  submitted_world : with_manager (settled (queue ++ record { act = act; unit = unit } ∷ []) (manager_of new)) new.history.world
      ≡ finished (Perform act unit) (with_manager (settled queue (manager_of old)) old.history.world)
  submitted_world = λ i. with_manager (submitted_settled i) (enters.world i)

  pub submitted_states : IsUnitName unit → AreStates (settled (queue ++ record { act = act; unit = unit } ∷ []) (manager_of new)).states
  submitted_states named = subst (λ (m : ManagerState). AreStates m.states) (sym submitted_settled) (states_with (settled queue (manager_of old)).states unit _ are named)

  pub submitted_ok : Becomes (settled_host queue old) (settled_host (queue ++ record { act = act; unit = unit } ∷ []) new) (finished (Perform act unit))
  submitted_ok = record {
    to = λ w is. (
      with_manager (settled (queue ++ record { act = act; unit = unit } ∷ []) (manager_of new)) new.history.world,
      refl,
      submitted_world ∙ ap (finished (Perform act unit)) (one_world _ _ _ refl is),
    );
  }

  pub submitted_moments : Passes (settled_host queue old) (settled_host (queue ++ record { act = act; unit = unit } ∷ []) new) (IsSubmitMoment act unit)
  submitted_moments =
      let was = state_of (manager_of old).states unit in
      passes_more _ _ (Performed unit was) _ _ (IsSubmitMoment act unit) _ _ _ _ _ _ enters.calls
      (ap (undone (Performed unit was)) submitted_world
      ∙ act_undone act unit was (with_manager (settled queue (manager_of old)) old.history.world) (sym (state_stays queue (manager_of old) unit free)) are)
      (inr submitted_world)

module _ (act : Act) (unit : Name) (old new : MemoryHost) (moments : IsStill old new ⊎ HasEntered act unit old new) where
  -- the record has grown where the act was entered, and nowhere else
  pub was_entered : clock_of old < clock_of new → HasEntered act unit old new
  was_entered grown =
      ⊎_elim (λ still. absurd (let same = ap (λ (us : List DoneCall). length us) still.calls in omega (arith, grown, same))) (λ enters. enters) moments

  pub was_still : clock_of new ≤ clock_of old → IsStill old new
  was_still stays =
      ⊎_elim (λ still. still) (λ enters. absurd (let one = entered_one old.history new.history act unit enters in omega (arith, stays, one))) moments

  pub still_submit : (queue : List Job) → IsStill old new → Passes (settled_host queue old) (settled_host queue new) (IsSubmitMoment act unit)
  still_submit queue still = same_as (still_same queue old new still) (IsSubmitMoment act unit) (λ w is. inl refl)
