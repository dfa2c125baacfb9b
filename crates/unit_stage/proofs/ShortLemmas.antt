-- At each moment of a switch of the units the log and the lists of an older program are short enough to be read again, where they were.
use Rattle.std.proofs.Common.{◌≡◌, ◌+◌, ◌≤◌, ◌∷◌, ℕ, true, List, [], refl, sym, ap, subst, ◌∙◌, inl, inr, arith}
use Rattle.std.proofs.lemmas.Bool.{or_cases, or_left}
use Rattle.std.specs.FinMap.{get}
use Rattle.host_trait.specs.World.{Leaves, WorldState, leaf_content}
use Rattle.host_trait.proofs.NameOrder.{name_exact, name_itself}
use Rattle.host_trait.specs.States.{state_of}
use Rattle.leaf_limits.specs.Limits.{leaf_max, length_at, length_of}
use Rattle.log_text.specs.declared.lists.Lists.{Lists}
use Rattle.log_text.specs.declared.lists.Which.{Which}
use Rattle.log_text.specs.declared.lists.Which.TheVariants.{Starts}
use Rattle.owed_lists.specs.Lists.{place_of}
use Rattle.owed_log.specs.declared.log_write.LogWrite.{LogWrite}
use Rattle.owed_log.specs.Lengths.{AreOwedShort, HaveRoom, log_length}
use Rattle.owed_log.specs.Places.{log_place, old_places}
use Rattle.owed_log.specs.Writing.{IsPrepared, recorded}
use Rattle.owed_log.proofs.LengthLemmas.{old_is, roomy_clear_law, roomy_record_law, short_record_law}
use Rattle.owed_plan.specs.declared.duty.Duty.{Duty}
use Rattle.owed_plan.specs.declared.owed.Owed.{Owed}
use Rattle.owed_plan.specs.Calls.{give_order, listed_calls, stop_calls}
use Rattle.owed_plan.specs.Store.{AreSameInStore}
use Rattle.owed_plan.proofs.StoreLemmas.{leaf_same}
use Rattle.switch_names.specs.Names.{Name, has, is_name}
use Rattle.switch_parts.proofs.StoreLemmas.{store_not_stage}
use Rattle.unit_stage.specs.Acts.{with_calls}
use Rattle.unit_stage.specs.Laws.{AreSameBeside}
use Rattle.unit_stage.specs.Steps.{IsBringStep, IsClearingMoment, IsGiveMoment, IsListMoment, IsStopStep, IsUnitMoment, with_cleared, with_current, with_given, with_loaded, with_stops}
use Rattle.unit_stage.proofs.ElsewhereLemmas.{bring_elsewhere, leaves_performing, lists_elsewhere, stop_elsewhere}
use Rattle.unit_stage.proofs.ListsLemmas.{AreSameLists}
use Rattle.unit_stage.proofs.OwnedLemmas.{not_owns_store, reads_store}
use Rattle.unit_stage.proofs.StandLemmas.{lists_beside, same_lists_of, store_beside}

-- ---- the places

-- what holds at the log's place and at those of the lists holds at each of them
old_place : (P : Name → Type 0) → ((which : Which) → P (place_of which)) → (q : Name) → has old_places q ≡ true → P q
old_place P lists q there = let old = old_is q there in subst P (sym old.1) (lists old.0)

-- what has room is short
room_short : (more : ℕ) (leaves : Leaves) → HaveRoom more leaves → AreOwedShort leaves
room_short more leaves room q there = elim (or_cases (is_name q log_place) (has old_places q) there) [
  | inl log ↦ subst (λ (p : Name). length_at leaves p ≤ leaf_max) (sym (name_exact q log_place log)) (let log = room.log in omega (arith, log))
  | inr old ↦ room.old q old
]

-- and has less room too
room_at_most : (less more : ℕ) → less ≤ more → (leaves : Leaves) → HaveRoom more leaves → HaveRoom less leaves
room_at_most less more within leaves room = record { log = let log = room.log in omega (arith, within, log); old = room.old }

room_less : (more : ℕ) (leaves : Leaves) → HaveRoom (more + 16) leaves → HaveRoom more leaves
room_less more = room_at_most more (more + 16) (omega arith)

-- ---- trees with the same lists

module _ (w m : Leaves) (store : AreSameInStore m w) (same : AreSameLists w m) where
  same_length : (q : Name) → get m q ≡ get w q → length_at m q ≡ length_at w q
  same_length q there = ap length_of (ap (leaf_content m) there ∙ leaf_same m w store (get w q))

  list_length : (which : Which) → length_at m (place_of which) ≡ length_at w (place_of which)
  list_length which = same_length (place_of which) (same.old which)

  within_old : (q : Name) → has old_places q ≡ true → length_at w q ≤ leaf_max → length_at m q ≤ leaf_max
  within_old = old_place (λ q. length_at w q ≤ leaf_max → length_at m q ≤ leaf_max) (λ which short. subst (λ n. n ≤ leaf_max) (sym (list_length which)) short)

  pub short_same : AreOwedShort w → AreOwedShort m
  short_same short q there = elim (or_cases (is_name q log_place) (has old_places q) there) [
    | inl log ↦
        subst (λ (p : Name). length_at m p ≤ leaf_max) (sym (name_exact q log_place log))
        (subst (λ n. n ≤ leaf_max) (sym (same_length log_place same.log)) (short log_place (or_left (is_name log_place log_place) (has old_places log_place) (name_itself log_place))))
    | inr old ↦ within_old q old (short q there)
  ]

  room_same : (more : ℕ) → HaveRoom more w → HaveRoom more m
  room_same more room = record {
    log = subst (λ n. n + more ≤ leaf_max) (sym (same_length log_place same.log)) room.log;
    old = λ q there. within_old q there (room.old q there);
  }

-- ---- the steps

module _ (lists : Lists) (write : LogWrite) (w : WorldState) (prepared : IsPrepared w.leaves lists write) (fits : log_length lists ≤ leaf_max) (short : AreOwedShort w.leaves) where
  recorded_room : HaveRoom 64 (recorded write w).leaves
  recorded_room = roomy_record_law lists write w (recorded write w) prepared fits short refl

  stop_short : (stops : List Duty) (u : WorldState) → IsStopStep write stops w u → AreOwedShort u.leaves
  stop_short stops u (IsStopStep.Recording moment) = short_record_law lists write w u prepared fits short moment
  stop_short stops u (IsStopStep.Stopping part) =
      subst AreOwedShort (sym (leaves_performing stops (recorded write w) u part)) (room_short 64 (recorded write w).leaves recorded_room)

-- some of the calls of a list, and its clearing
module _ (more : ℕ) (x : WorldState) (room : HaveRoom (more + 16) x.leaves) where
  clearing_room : (which : Which) (calls : List Duty) (u : WorldState) → IsClearingMoment which calls x u → HaveRoom more u.leaves
  clearing_room which calls u (inl part) = subst (HaveRoom more) (sym (leaves_performing calls x u part)) (room_less more x.leaves room)
  clearing_room which calls u (inr moment) = roomy_clear_law which more (with_calls calls x) u room moment

  list_room : (which : Which) (calls : List Duty) (u : WorldState) → IsListMoment which calls x u → HaveRoom more u.leaves
  list_room Starts calls u moment = clearing_room Starts calls u moment
  list_room which [] u is = subst (λ (y : WorldState). HaveRoom more y.leaves) (sym is) (room_less more x.leaves room)
  list_room which (call ∷ calls) u moment = clearing_room which (call ∷ calls) u moment

  cleared_room : (which : Which) (calls : List Duty) → HaveRoom more (with_cleared which calls x).leaves
  cleared_room which calls = roomy_clear_law which more (with_calls calls x) (with_cleared which calls x) room (inr (inl refl))

  given_room : (which : Which) (calls : List Duty) → HaveRoom more (with_given which calls x).leaves
  given_room Starts calls = cleared_room Starts calls
  given_room which [] = room_less more x.leaves room
  given_room which (call ∷ calls) = cleared_room which (call ∷ calls)

-- the room that the clearing of these lists takes
abbrev room_of : List Which → ℕ
room_of [] = 0
room_of (which ∷ order) = room_of order + 16

module _ (calls : Which → List Duty) where
  give_short : (order : List Which) (x u : WorldState) → HaveRoom (room_of order) x.leaves → IsGiveMoment calls order x u → AreOwedShort u.leaves
  give_short [] x u room is = subst (λ (y : WorldState). AreOwedShort y.leaves) (sym is) (room_short 0 x.leaves room)
  give_short (which ∷ order) x u room (inl moment) = room_short (room_of order) u.leaves (list_room (room_of order) x room which (calls which) u moment)
  give_short (which ∷ order) x u room (inr later) = give_short order (with_given which (calls which) x) u (given_room (room_of order) x room which (calls which)) later

  bring_short : (system : Name) (v u : WorldState) → HaveRoom 64 v.leaves → IsBringStep system calls v u → AreOwedShort u.leaves
  bring_short system v u room (IsBringStep.Waiting is) = subst (λ (y : WorldState). AreOwedShort y.leaves) (sym is) (room_short 64 v.leaves room)
  bring_short system v u room (IsBringStep.Linked is) =
      subst (λ (y : WorldState). AreOwedShort y.leaves) (sym is) (short_same v.leaves (with_current system v).leaves (store_beside system v) (lists_beside system v) (room_short 64 v.leaves room))
  bring_short system v u room (IsBringStep.Giving moment) =
      give_short give_order (with_loaded system v) u (room_at_most (room_of give_order) 64 (omega arith) (with_current system v).leaves (room_same v.leaves (with_current system v).leaves (store_beside system v) (lists_beside system v) 64 room)) moment

-- ---- each moment

pub unit_short : (system : Name) (owed : Owed) (order : List Name) (w m : WorldState) → log_length owed.lists ≤ leaf_max → AreSameBeside w m → IsUnitMoment system owed order w m → AreOwedShort w.leaves → AreOwedShort m.leaves
unit_short system owed order w m fits beside (IsUnitMoment.Stopping write is u step same) short =
    short_same u.leaves m.leaves
    (λ q inside. beside q (reads_store q inside) (not_owns_store q inside) ∙ sym (stop_elsewhere write (stop_calls owed) w u q (not_owns_store q inside) (store_not_stage q inside) step))
    (same_lists_of u m same) (stop_short owed.lists write w is.prepared fits short (stop_calls owed) u step)
unit_short system owed order w m fits beside (IsUnitMoment.Bringing write is u step same) short =
    let calls = listed_calls owed order (state_of w.manager.states) in
    let v = with_stops write (stop_calls owed) w in
    short_same u.leaves m.leaves
    (λ q inside.
    beside q (reads_store q inside) (not_owns_store q inside)
    ∙ sym (bring_elsewhere q (not_owns_store q inside) calls system v u step ∙ lists_elsewhere write w q (not_owns_store q inside) (store_not_stage q inside)))
    (same_lists_of u m same) (bring_short calls system v u (recorded_room owed.lists write w is.prepared fits short) step)
