-- How a history goes on: the worlds since a time after one more call.
use Rattle.std.proofs.Common.{◌≡◌, ◌≤◌, ◌⊎◌, ℕ, Bool, List, [], ◌∷◌, ◌++◌, length, drop, Option, None, Some, Result, Ok, Err, OnOk, OnErr, refl, sym, ap, subst, ◌∙◌, inl, inr, ⊎_elim, arith, eq-or-lt_of_le, length-append}
use Rattle.std.proofs.lemmas.List.{drop-append-le, drop_all}
use Rattle.host_memory.specs.declared.history.DoneCall.{DoneCall}
use Rattle.host_memory.specs.declared.history.History.{History}
use Rattle.host_memory.specs.declared.history.DoneCall.TheVariants.{Staged, Renamed, Removed, Appended, Replaced, Performed, Halted, Loaded}
use Rattle.host_memory.specs.History.{undone, rewound, LeftSince, memory_state, GoesOn, GoesOnBeside, IsOfTree, Makes}
use Rattle.host_trait.specs.Change.{Change, IsMoment, Stage, Rename, Remove, Append, Perform, DaemonReload, finished}
use Rattle.host_trait.specs.declared.manager_state.ManagerState.{ManagerState}
use Rattle.host_trait.specs.Host.{Passes}
use Rattle.host_trait.specs.World.{WorldState, with_manager}
use Rattle.host_trait.proofs.Moments.{one_world}

rewound_more : (us : List DoneCall) (u : DoneCall) (v : WorldState) → rewound (us ++ u ∷ []) v ≡ rewound us (undone u v)
rewound_more [] u v = refl
rewound_more (x ∷ us) u v = ap (undone x) (rewound_more us u v)

some_or_none : {X : Type 0} (x : X) → Some x ≡ None → ⊥
some_or_none x e = cc

-- after one more call, the worlds since a time are those before it and the present one
left_before :
    (us : List DoneCall) (u : DoneCall) (w v : WorldState) (t : ℕ) (m : WorldState) →
    undone u v ≡ w → LeftSince us w t m → LeftSince (us ++ u ∷ []) v t m
left_before us u w v t m back (k, early, late, is) =
    let len = length-append us (u ∷ []) in (
      k,
      early,
      omega arith,
      is ∙ ap (rewound (drop k us)) (sym back) ∙ sym (rewound_more (drop k us) u v) ∙ ap (λ calls. rewound calls v) (sym (drop-append-le k us (u ∷ []) late)),
    )

left_after :
    (us : List DoneCall) (u : DoneCall) (w v : WorldState) (t : ℕ) (m : WorldState) →
    undone u v ≡ w → LeftSince (us ++ u ∷ []) v t m → LeftSince us w t m ⊎ (m ≡ v)
left_after us u w v t m back (k, early, late, is) =
    let len = length-append us (u ∷ []) in
    elim (eq-or-lt_of_le late) [
      | inl last ↦ inr (is ∙ ap (λ calls. rewound calls v) (drop_all k (us ++ u ∷ []) (omega arith)))
      | inr less ↦
          let within : k ≤ length us = omega arith in
          inl (
            k,
            early,
            within,
            is ∙ ap (λ calls. rewound calls v) (drop-append-le k us (u ∷ []) within) ∙ rewound_more (drop k us) u v ∙ ap (rewound (drop k us)) back,
          )
    ]

pub passes_more :
    (us vs : List DoneCall) (u : DoneCall) (w v : WorldState) (R : WorldState → WorldState → Type 0)
    (last then_last : Option ℕ) (faults then_faults : ℕ) (is_sure then_sure : Bool) →
    vs ≡ us ++ u ∷ [] → undone u v ≡ w → R w v → Passes (memory_state us w last faults is_sure) (memory_state vs v then_last then_faults then_sure) R
passes_more us vs u w v R last then_last faults then_faults is_sure then_sure grown back now =
    let len = ap (λ calls. length calls) grown ∙ length-append us (u ∷ []) in
    record {
      later = omega arith;
      nothing_else = λ t m early left.
          ⊎_elim (λ before. inl before) (λ is. inr (w, refl, subst (λ x. R w x) (sym is) now))
          (left_after us u w v t m back (subst (λ calls. LeftSince calls v t m) grown left));
      keeps = λ t m early left. subst (λ calls. LeftSince calls v t m) (sym grown) (left_before us u w v t m back left);
      tells = record { to = λ x is. (v, refl, subst (λ y. R y v) (one_world (Some w) w x refl is) now) };
      silent = λ none. absurd (some_or_none w none);
    }

-- a record that grew by one call
pub one_more : (old kept new : List DoneCall) (u : DoneCall) → new ≡ kept ++ u ∷ [] → kept ≡ old → new ≡ old ++ u ∷ []
one_more old kept new u grown same = grown ∙ ap (λ calls. calls ++ u ∷ []) same

-- a history with one more call has gone on by it
pub recorded :
    (old new : History) (u : DoneCall) (R : WorldState → WorldState → Type 0) →
    new.calls.items ≡ old.calls.items ++ u ∷ [] → undone u new.world ≡ old.world → R old.world new.world → GoesOn old new R
recorded old new u R grown back now = record {
  passes = λ last then_last faults then_faults is_sure then_sure.
      passes_more old.calls.items new.calls.items u old.world new.world R last then_last faults then_faults is_sure then_sure grown back now;
}

pub passes_still :
    (us vs : List DoneCall) (w v : WorldState) (R : WorldState → WorldState → Type 0)
    (last then_last : Option ℕ) (faults then_faults : ℕ) (is_sure then_sure : Bool) →
    vs ≡ us → v ≡ w → R w v → Passes (memory_state us w last faults is_sure) (memory_state vs v then_last then_faults then_sure) R
passes_still us vs w v R last then_last faults then_faults is_sure then_sure calls world now =
    let len = ap (λ (xs : List DoneCall). length xs) calls in
    record {
      later = omega arith;
      nothing_else = λ t m early left. inl (subst (λ x. LeftSince us x t m) world (subst (λ xs. LeftSince xs v t m) calls left));
      keeps = λ t m early left. subst (λ xs. LeftSince xs v t m) (sym calls) (subst (λ x. LeftSince us x t m) (sym world) left);
      tells = record { to = λ x is. (v, refl, subst (λ y. R y v) (one_world (Some w) w x refl is) now) };
      silent = λ none. absurd (some_or_none w none);
    }

-- a history with the same world and the same calls has gone on by nothing
pub unchanged :
    (old new : History) (R : WorldState → WorldState → Type 0) →
    new.world ≡ old.world → new.calls.items ≡ old.calls.items → R old.world new.world → GoesOn old new R
unchanged old new R world calls now = record {
  passes = λ last then_last faults then_faults is_sure then_sure.
      passes_still old.calls.items new.calls.items old.world new.world R last then_last faults then_faults is_sure then_sure calls world now;
}

-- an item of the record that undoes what was done to the leaves alone
abbrev pub IsTreeItem : DoneCall → Type 0
IsTreeItem (Staged was) = Unit {0}
IsTreeItem (Renamed to was) = Unit {0}
IsTreeItem (Removed at was) = Unit {0}
IsTreeItem (Appended at count) = Unit {0}
IsTreeItem (Replaced at was) = Unit {0}
IsTreeItem (Performed unit was) = ⊥
IsTreeItem (Halted unit was) = ⊥
IsTreeItem (Loaded was) = ⊥

-- it does so beside any manager
undone_beside : (u : DoneCall) → IsTreeItem u → (manager : ManagerState) (w : WorldState) → undone u (with_manager manager w) ≡ with_manager manager (undone u w)
undone_beside (Staged was) is manager w = refl
undone_beside (Renamed to was) is manager w = refl
undone_beside (Removed at was) is manager w = refl
undone_beside (Appended at count) is manager w = refl
undone_beside (Replaced at was) is manager w = refl
undone_beside (Performed unit was) is manager w = absurd is
undone_beside (Halted unit was) is manager w = absurd is
undone_beside (Loaded was) is manager w = absurd is

-- and so is a change of the leaves made
pub finished_beside : (change : Change) → IsOfTree change → (manager : ManagerState) (w : WorldState) → finished change (with_manager manager w) ≡ with_manager manager (finished change w)
finished_beside (Stage leaf) is manager w = refl
finished_beside (Rename to) is manager w = refl
finished_beside (Remove at) is manager w = refl
finished_beside (Append at bytes) is manager w = refl
finished_beside (Perform act unit) is manager w = absurd is
finished_beside DaemonReload is manager w = absurd is

finished_manager : (change : Change) → IsOfTree change → (w : WorldState) → (finished change w).manager ≡ w.manager
finished_manager (Stage leaf) is w = refl
finished_manager (Rename to) is w = refl
finished_manager (Remove at) is w = refl
finished_manager (Append at bytes) is w = refl
finished_manager (Perform act unit) is w = absurd is
finished_manager DaemonReload is w = absurd is

-- a history with one more call on the tree has gone on by it beside any manager
pub recorded_beside :
    (old new : History) (u : DoneCall) (R : WorldState → WorldState → Type 0) →
    IsTreeItem u → new.calls.items ≡ old.calls.items ++ u ∷ [] → undone u new.world ≡ old.world → new.world.manager ≡ old.world.manager →
    ((manager : ManagerState) → R (with_manager manager old.world) (with_manager manager new.world)) → GoesOnBeside old new R
recorded_beside old new u R is grown back same now = record {
  same_manager = same;
  passes = λ manager last then_last faults then_faults is_sure then_sure.
      passes_more old.calls.items new.calls.items u (with_manager manager old.world) (with_manager manager new.world) R last then_last faults then_faults is_sure then_sure grown
      (undone_beside u is manager new.world ∙ ap (with_manager manager) back) (now manager);
}

-- and one with the same world and the same calls has gone on by nothing beside any manager
pub unchanged_beside :
    (old new : History) (R : WorldState → WorldState → Type 0) →
    new.world ≡ old.world → new.calls.items ≡ old.calls.items → ((w : WorldState) → R w w) → GoesOnBeside old new R
unchanged_beside old new R world calls still = record {
  same_manager = ap (λ (w : WorldState). w.manager) world;
  passes = λ manager last then_last faults then_faults is_sure then_sure.
      passes_still old.calls.items new.calls.items (with_manager manager old.world) (with_manager manager new.world) R last then_last faults then_faults is_sure then_sure calls
      (ap (with_manager manager) world)
      (subst (λ w. R (with_manager manager old.world) w) (sym (ap (with_manager manager) world)) (still (with_manager manager old.world)));
}

-- a call on the tree was made where it left its world, and one item more by which it is undone
pub entered :
    (old new : History) (u : DoneCall) (change : Change) → IsTreeItem u → IsOfTree change →
    new.calls.items ≡ old.calls.items ++ u ∷ [] → undone u new.world ≡ old.world → new.world ≡ finished change old.world →
    Makes change (finished change old.world) old new
entered old new u change is of grown back now = record {
  world = now;
  clock = ap (λ calls. length calls) grown ∙ length-append old.calls.items (u ∷ []);
  moments = recorded old new u (IsMoment change) grown back (inr (inl now));
  beside = λ tree.
      recorded_beside old new u (IsMoment change) is grown back (ap (λ (w : WorldState). w.manager) now ∙ finished_manager change of old.world)
      (λ manager. inr (inl (ap (with_manager manager) now ∙ sym (finished_beside change of manager old.world))));
}

-- a call on the manager that left a world and one item more was made
pub made :
    {T E : Type 0} (old new : History) (change : Change) (world after : WorldState) (u : DoneCall) (result : Result T E) →
    OnOk result (new.world ≡ world) → OnOk result (new.calls.items ≡ old.calls.items ++ u ∷ []) → world ≡ after →
    (new.world ≡ world → new.calls.items ≡ old.calls.items ++ u ∷ [] → GoesOn old new (IsMoment change)) → (IsOfTree change → ⊥) → OnOk result (Makes change after old new)
made old new change world after u (Ok x) now grown is moments other = record {
  world = now ∙ is;
  clock = ap (λ calls. length calls) grown ∙ length-append old.calls.items (u ∷ []);
  moments = moments now grown;
  beside = λ tree. absurd (other tree);
}
made old new change world after u (Err e) now grown is moments other = tt

-- a call that failed left all as it was
pub kept :
    {T E : Type 0} (result : Result T E) (old new : WorldState) (us vs : List DoneCall) →
    new ≡ old → vs ≡ us → OnErr result ((new ≡ old) × (vs ≡ us))
kept (Ok x) old new us vs world calls = tt
kept (Err e) old new us vs world calls = (world, calls)
