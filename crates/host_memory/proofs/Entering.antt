-- What a call leaves that enters an act, and what goes on beside any manager.
use Rattle.std.proofs.Common.{◌≡◌, ◌≤◌, ◌⊎◌, ◌+◌, ℕ, List, [], ◌∷◌, ◌++◌, length, Result, Ok, Err, OnOk, OnErr, refl, sym, ap, subst, ◌∙◌, inl, ⊎_elim, arith, length-append}
use Rattle.std.specs.List.{AllByRecursion}
use Rattle.host_memory.proofs.Histories.{unchanged_beside}
use Rattle.host_memory.specs.declared.history.DoneCall.{DoneCall}
use Rattle.host_memory.specs.declared.history.DoneCall.TheVariants.{Performed}
use Rattle.host_memory.specs.declared.history.History.{History}
use Rattle.host_memory.specs.declared.memory_host.MemoryHost.{MemoryHost}
use Rattle.host_memory.specs.History.{Enters, GoesOnBeside, Stays}
use Rattle.host_memory.specs.MemoryHost.{GoesBeside, IsStill, host_with}
use Rattle.host_trait.specs.Change.{Change, IsMoment, IsSame}
use Rattle.host_trait.specs.declared.entry.Act.{Act}
use Rattle.host_trait.specs.declared.entry.Entry.{Entry}
use Rattle.host_trait.specs.declared.manager_state.ManagerState.{ManagerState}
use Rattle.host_trait.specs.Host.{Passes}
use Rattle.host_trait.specs.Manager.{HasPlainTexts, IsPlain}
use Rattle.host_trait.specs.States.{state_of}
use Rattle.manager_core.specs.Call.{effected, entered}

module _ (old new : MemoryHost) (change : Change) where
  -- a history that went on beside any manager
  pub goes_beside : GoesOnBeside old.history new.history (IsMoment change) → GoesBeside change old new
  goes_beside way = record { same_manager = way.same_manager; moments = λ manager. way.passes manager _ _ _ _ _ _ }

  -- one that is as it was
  pub still_beside : new.history.world ≡ old.history.world → new.history.calls.items ≡ old.history.calls.items → GoesBeside change old new
  still_beside world calls = goes_beside (unchanged_beside old.history new.history (IsMoment change) world calls (λ w. inl refl))

-- a host that is as it was has gone on by nothing beside any manager
pub stands_with : (manager : ManagerState) (old new : MemoryHost) → IsStill old new → Passes (host_with manager old) (host_with manager new) IsSame
stands_with manager old new still = (unchanged_beside old.history new.history IsSame still.world still.calls (λ w. refl)).passes manager _ _ _ _ _ _

pub entered_one : (old new : History) (act : Act) (unit : List ℕ) → Enters act unit old new → length new.calls.items ≡ length old.calls.items + 1
entered_one old new act unit is =
    ap (λ (us : List DoneCall). length us) is.calls ∙ length-append old.calls.items (Performed unit (state_of old.world.manager.states unit) ∷ [])

-- one call is counted, or none
pub entered_or_not : (old new : History) (act : Act) (unit : List ℕ) → Stays old new ⊎ Enters act unit old new →
    (length old.calls.items ≤ length new.calls.items) × (length new.calls.items ≤ length old.calls.items + 1)
entered_or_not old new act unit is =
    ⊎_elim
    (λ stays. let same = ap (λ (us : List DoneCall). length us) stays.calls in (omega arith, omega arith))
    (λ enters. let one = entered_one old new act unit enters in (omega arith, omega arith))
    is

pub entered_at_most : {E : Type 0} (old new : History) (act : Act) (unit : List ℕ) (result : Result (Unit {0}) E) →
    OnOk result (Enters act unit old new) → OnErr result (Stays old new) →
    (length old.calls.items ≤ length new.calls.items) × (length new.calls.items ≤ length old.calls.items + 1)
entered_at_most old new act unit (Ok x) ok err = let one = entered_one old new act unit ok in (omega arith, omega arith)
entered_at_most old new act unit (Err e) ok err = let same = ap (λ (us : List DoneCall). length us) err.calls in (omega arith, omega arith)

all_and : {X : Type 0} (P : X → Type 0) (xs : List X) (x : X) → AllByRecursion P xs → P x → AllByRecursion P (xs ++ x ∷ [])
all_and P [] x all one = (one, tt)
all_and P (y ∷ xs) x all one = (all.0, all_and P xs x all.1 one)

-- the texts of a manager are plain after an entry, and after its effect
pub plain_entered : {E : Type 0} (result : Result (Unit {0}) E) (act : Act) (unit : List ℕ) (old new : ManagerState) →
    OnOk result (new ≡ entered act unit old) → OnErr result (new ≡ old) → HasPlainTexts old → HasPlainTexts new
plain_entered (Ok x) act unit old new ok err plain =
    subst HasPlainTexts (sym ok)
    (record {
      loaded = plain.loaded;
      bad = plain.bad;
      journal = all_and (λ (entry : Entry). IsPlain entry.loaded) old.journal (record { unit = unit; act = act; loaded = old.loaded }) plain.journal plain.loaded;
    })
plain_entered (Err e) act unit old new ok err plain = subst HasPlainTexts (sym err) plain

pub plain_effected : {E : Type 0} (result : Result (Unit {0}) E) (act : Act) (unit : List ℕ) (old new : ManagerState) →
    OnOk result (new ≡ effected act unit old) → OnErr result (new ≡ old) → HasPlainTexts old → HasPlainTexts new
plain_effected (Ok x) act unit old new ok err plain = subst HasPlainTexts (sym ok) (record { loaded = plain.loaded; bad = plain.bad; journal = plain.journal })
plain_effected (Err e) act unit old new ok err plain = subst HasPlainTexts (sym err) plain
