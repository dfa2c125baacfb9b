-- How far a switch of the units has come, by what stands and what was called.
use Rattle.std.proofs.Common.{◌≡◌, ◌≢◌, ◌⊎◌, ◌++◌, ◌∷◌, ℕ, zero, suc, true, false, List, [], Option, Some, map, take, drop, length, refl, sym, ap, subst, ◌∙◌, inl, inr}
use Rattle.std.proofs.lemmas.Bool.{cases_Bool}
use Rattle.std.proofs.lemmas.List.{append-nil, take-append-drop, take-map}
use Rattle.std.proofs.lemmas.List.Concat.{flat_map-append}
use Rattle.std.proofs.Math.Seq.{take-length}
use Rattle.std.specs.FinMap.{get}
use Rattle.std.specs.List.{AllByRecursion, flat_map, slice_get}
use Rattle.host_trait.specs.declared.entry.Act.{Act}
use Rattle.host_trait.specs.declared.entry.Act.TheVariants.{Stop, Restart}
use Rattle.host_trait.specs.declared.leaf.LeafKind.{LeafKind}
use Rattle.host_trait.specs.declared.manager_state.ManagerState.{ManagerState}
use Rattle.host_trait.specs.Manager.{halted, loading}
use Rattle.host_trait.specs.States.{state_of}
use Rattle.host_trait.specs.Change.{IsMoment}
use Rattle.host_trait.specs.World.{IsFileAt, Leaves, WorldState, with_manager}
use Rattle.log_text.specs.declared.lists.Lists.{Lists}
use Rattle.log_text.specs.declared.lists.Which.TheVariants.{Starts}
use Rattle.log_text.specs.declared.lists.Which.{Which}
use Rattle.log_text.specs.Lists.{AreCounted, AreInOrder, AreLists, block_of, list_names, lists_after, no_lists, record_order, with_list}
use Rattle.owed_log.specs.declared.log_write.LogWrite.{LogWrite}
use Rattle.owed_log.specs.Laws.{AreAlone, CanClear}
use Rattle.owed_log.specs.Places.{log_place}
use Rattle.owed_log.specs.Standing.{AreListsAt}
use Rattle.owed_log.specs.Writing.{IsRecordMoment, IsWriteFor, clearing, recorded}
use Rattle.owed_log.proofs.BesideLemmas.{clearing_manager, record_manager, recorded_manager}
use Rattle.owed_log.proofs.ListLemmas.{one_lists, some_lists}
use Rattle.owed_log.proofs.MomentLemmas.{record_law, recorded_law}
use Rattle.owed_plan.specs.declared.duty.Duty.{Duty}
use Rattle.owed_plan.specs.declared.owed.Owed.{Owed}
use Rattle.owed_plan.specs.Calls.{act_on, duty, give_order, listed_calls, stop_calls}
use Rattle.owed_plan.specs.Law.{IsRecorded, stopped}
use Rattle.owed_plan.specs.Lists.{renews}
use Rattle.owed_plan.specs.Owed.{sockets_first}
use Rattle.switch_names.specs.Names.{Name}
use Rattle.switch_parts.proofs.StoreLemmas.{store_not_stage}
use Rattle.unit_decide.specs.Facts.{unit_kind}
use Rattle.owed_plan.specs.Store.{AreSameInStore}
use Rattle.unit_stage.specs.Acts.{IsPerforming, performed, with_calls}
use Rattle.unit_stage.specs.Laws.{AreSameBeside}
use Rattle.unit_stage.specs.Steps.{AreSameUnits, HasLogFor, IsBringStep, IsGiveMoment, IsListMoment, IsStopStep, IsUnitMoment, with_all_given, with_current, with_loaded, with_stops}
use Rattle.unit_stage.specs.System.{current_place, definitions_of, system_leaf}
use Rattle.unit_stage.proofs.CallLemmas.{performed-append}
use Rattle.unit_stage.proofs.CallingLemmas.{IsCalling, lists_without}
use Rattle.unit_stage.proofs.ElsewhereLemmas.{bring_elsewhere, lists_elsewhere, own_current, stop_elsewhere}
use Rattle.unit_stage.proofs.GivenLemmas.{alone_at, alone_end, in_some_turn, log_at, log_for, no_listed, stands, without_more, world_at}
use Rattle.unit_stage.proofs.ListCallLemmas.{IsActBy, act_by, given_after, given_before, is_restart, no_restart, set_list, turn_split}
use Rattle.unit_stage.proofs.ListsLemmas.{AreListLeaves, leaves_same, lists_same}
use Rattle.unit_stage.proofs.OwnedLemmas.{not_owns_store, reads_store}
use Rattle.unit_stage.proofs.RecordLemmas.{IsClearing, clears, record_leaves}
use Rattle.unit_stage.proofs.StandLemmas.{Stand, all_given_current, all_given_manager, alone_stands, cleared_current, current_alone, current_here, record_current, recorded_current, same_lists_of, same_stands}

-- ---- calls, split at one of them

split_one : (calls : List Duty) (count : ℕ) (call : Duty) → slice_get calls count ≡ Some call → calls ≡ take count calls ++ call ∷ drop (suc count) calls
split_one [] count call is = absurd cc
split_one (first ∷ calls) zero call is = let same : first ≡ call = cc in ap (λ c. c ∷ calls) same
split_one (first ∷ calls) (suc count) call is = ap (λ cs. first ∷ cs) (split_one calls count call is)

one_of_all : (P : Duty → Type 0) (calls : List Duty) (count : ℕ) (call : Duty) → AllByRecursion P calls → slice_get calls count ≡ Some call → P call
one_of_all P [] count call all is = absurd cc
one_of_all P (first ∷ calls) zero call all is = let same : first ≡ call = cc in subst P same all.0
one_of_all P (first ∷ calls) (suc count) call all is = one_of_all P calls count call all.1 is

all_of : (P : Duty → Type 0) (act : Name → Act) (names : List Name) → ((unit : Name) → P (duty (act unit) unit)) → AllByRecursion P (map (λ unit. duty (act unit) unit) names)
all_of P act [] each = tt
all_of P act (name ∷ names) each = (each name, all_of P act names each)

-- calls among which there is no restart have no middle
none_within : (calls : List Duty) (count : ℕ) (unit : Name) → AllByRecursion (λ call. is_restart call.act ≡ false) calls → slice_get calls count ≡ Some (duty Restart unit) → ⊥
none_within calls count unit all is = let none : true ≡ false = one_of_all (λ call. is_restart call.act ≡ false) calls count (duty Restart unit) all is in cc none

-- a list's calls are being made, or they are and it is being cleared: the log is a file, unless it goes with the starts
list_step : (which : Which) (calls : List Duty) (x u : WorldState) → HasLogFor which calls x.leaves → IsListMoment which calls x u →
    IsPerforming calls x u ⊎ (IsMoment (clearing which) (with_calls calls x) u × (which ≢ Starts → IsFileAt x.leaves log_place))
list_step Starts calls x u log (inl part) = inl part
list_step Starts calls x u log (inr moment) = inr (moment, λ other. absurd (other refl))
list_step which [] x u log is = inl (IsPerforming.After 0 is)
list_step which (call ∷ rest) x u log (inl part) = inl part
list_step which (call ∷ rest) x u log (inr moment) = inr (moment, λ other. log)

-- ---- how far

-- the names of a list are the old ones, or those that are owed
abbrev IsOldOrOwed : Lists → Lists → Lists → Which → Type 0
IsOldOrOwed old owed now which = (list_names now which ≡ list_names old which) ⊎ (list_names now which ≡ list_names owed which)

-- so they are where blocks of what is owed are recorded
recorded_so : (old owed : Lists) (which : Which) (order : List Which) (now : Lists) → IsOldOrOwed old owed now which →
    IsOldOrOwed old owed (lists_after now (map (λ one. block_of one (list_names owed one)) order)) which
recorded_so old owed which [] now is = is
recorded_so old owed which (one ∷ order) now is =
    recorded_so old owed which order (with_list now one (list_names owed one))
    (elim (set_list now one (list_names owed one) which) [
      | inl same ↦ elim is [
        | inl before ↦ inl (same ∙ before)
        | inr given ↦ inr (same ∙ given)
      ]
      | inr set ↦ inr (set.0 ∙ ap (list_names owed) set.1)
    ])

-- the starts are the first that are recorded
starts_first : (old owed : Lists) (order : List Which) → (lists_after old (map (λ one. block_of one (list_names owed one)) (Starts ∷ order))).starts ≡ owed.starts
starts_first old owed order =
    elim (recorded_so (with_list old Starts owed.starts) owed Starts order (with_list old Starts owed.starts) (inl refl)) [
      | inl same ↦ same
      | inr same ↦ same
    ]

-- a manager is as another one, but for what is loaded
pub record IsLike (like manager : ManagerState) : Type 0 where
  pub states : manager.states ≡ like.states
  pub bad : manager.bad ≡ like.bad
  pub journal : manager.journal ≡ like.journal

-- the manager after the stops, with the definitions of a system loaded
abbrev pub ready : Name → Owed → WorldState → ManagerState
ready system owed w = loading (definitions_of system) (performed (stop_calls owed) w.manager)

-- nothing has changed; or the units to start are recorded, and maybe others, and some of the stops are made; or the system
-- is in use, and some of the other calls are made
pub data HasCome (system : Name) (owed : Owed) (order : List Name) (w m : WorldState) : Type 0 where
  Begun : get m.leaves current_place ≡ get w.leaves current_place → AreListLeaves w.leaves m.leaves → ((lists : Lists) → AreListsAt w.leaves lists → AreListsAt m.leaves lists) → m.manager ≡ w.manager →
      HasCome system owed order w m
  Stopping : (count : ℕ) (old kept : Lists) → AreListsAt w.leaves old → IsRecorded owed old kept → Stand w.leaves m.leaves (get w.leaves current_place) kept → m.manager ≡ performed (take count (stop_calls owed)) w.manager → HasCome system owed order w m
  Bringing : (made rest : List Duty) (kept : Lists) (like : ManagerState) → flat_map (listed_calls owed order (state_of w.manager.states)) give_order ≡ made ++ rest →
      IsCalling owed order (state_of w.manager.states) (ready system owed w) made like kept →
      like.bad ≡ (performed made (ready system owed w)).bad → like.journal ≡ (performed made (ready system owed w)).journal → IsLike like m.manager →
      Stand w.leaves m.leaves (Some (system_leaf system)) kept → HasCome system owed order w m

module _ (system : Name) (owed : Owed) (order : List Name) (w : WorldState) where
  -- what stands where the units and the store are the same
  come_same : (u m : WorldState) → HasCome system owed order w u → AreSameUnits u m → AreSameInStore m.leaves u.leaves → HasCome system owed order w m
  come_same u m (HasCome.Begun current leaves forth manager) same store =
      let lists = same_lists_of u m same in
      HasCome.Begun (same.leaves current_place own_current ∙ current) (leaves_same w.leaves u.leaves m.leaves lists leaves) (λ l are. lists_same u.leaves m.leaves store lists l (forth l are)) (same.manager ∙ manager)
  come_same u m (HasCome.Stopping count old kept before recorded stand manager) same store =
      HasCome.Stopping count old kept before recorded (same_stands w.leaves u m same store _ _ stand) (same.manager ∙ manager)
  come_same u m (HasCome.Bringing made rest kept like prefix calling bad journal is stand) same store =
      HasCome.Bringing made rest kept like prefix calling bad journal
      (record {
        states = ap (λ (x : ManagerState). x.states) same.manager ∙ is.states;
        bad = ap (λ (x : ManagerState). x.bad) same.manager ∙ is.bad;
        journal = ap (λ (x : ManagerState). x.journal) same.manager ∙ is.journal;
      })
      (same_stands w.leaves u m same store _ _ stand)

module _ (system : Name) (owed : Owed) (order : List Name) (w : WorldState) (write : LogWrite) (is_write : IsWriteFor w.leaves owed.lists write) (are : AreLists owed.lists) where
  abbrev lists : Lists
  lists = owed.lists

  abbrev stops : List Duty
  stops = stop_calls owed

  abbrev listed : Which → List Duty
  listed = listed_calls owed order (state_of w.manager.states)

  abbrev then_ready : ManagerState
  then_ready = ready system owed w

  abbrev old_link : Option LeafKind
  old_link = get w.leaves current_place

  -- ---- up to the last stop

  module _ (u : WorldState) (old now : Lists) (before : AreListsAt w.leaves old) (after : AreListsAt u.leaves now) (moment : IsRecordMoment write w u) where
    in_order : AreInOrder old lists now → HasCome system owed order w u
    in_order (zero, is) =
        HasCome.Begun (record_current write w u moment) (record_leaves lists w write is_write.prepared u moment) (λ l at. subst (AreListsAt u.leaves) (is ∙ one_lists w.leaves old l before at) after)
        (record_manager write w u moment)
    in_order (suc count, is) =
        HasCome.Stopping 0 old now before
        (record {
          starts = ap (λ (l : Lists). l.starts) here ∙ starts_first old lists (take count (drop 1 record_order));
          others = λ which. subst (λ (l : Lists). IsOldOrOwed old lists l which) (sym here) (recorded_so old lists which (Starts ∷ take count (drop 1 record_order)) old (inl refl));
        })
        (record { current = record_current write w u moment; listed = after; written = record_leaves lists w write is_write.prepared u moment }) (record_manager write w u moment)
      where
        here : now ≡ lists_after old (map (λ which. block_of which (list_names lists which)) (Starts ∷ take count (drop 1 record_order)))
        here = is ∙ ap (lists_after old) (take-map (λ which. block_of which (list_names lists which)) (suc count) record_order)

  recording : (u : WorldState) → IsRecordMoment write w u → HasCome system owed order w u
  recording u moment =
      let old = some_lists w.leaves in let now = some_lists u.leaves in
      in_order u old.0 now.0 old.1 now.1 moment (record_law lists write w u old.0 now.0 are is_write.prepared moment old.1 now.1)

  pub recorded_alone : AreAlone (recorded write w).leaves lists
  recorded_alone = recorded_law lists write w (recorded write w) are is_write.prepared refl

  recorded_stands : Stand w.leaves (recorded write w).leaves old_link lists
  recorded_stands = alone_stands w.leaves (recorded write w).leaves old_link lists (recorded_current write w) recorded_alone

  no_restart_in_stops : AllByRecursion (λ call. is_restart call.act ≡ false) stops
  no_restart_in_stops = all_of (λ call. is_restart call.act ≡ false) (λ u. Stop) (sockets_first unit_kind owed.stops) (λ unit. refl)

  -- after so many stops
  stopped_come : (count : ℕ) (u : WorldState) → u.leaves ≡ (recorded write w).leaves → u.manager ≡ performed (take count stops) w.manager → HasCome system owed order w u
  stopped_come count u same manager =
      let old = some_lists w.leaves in
      HasCome.Stopping count old.0 lists old.1 (record { starts = refl; others = λ which. inr refl }) (subst (λ (leaves : Leaves). Stand w.leaves leaves old_link lists) (sym same) recorded_stands) manager

  stopping : (u : WorldState) → IsPerforming stops (recorded write w) u → HasCome system owed order w u
  stopping u (IsPerforming.After count is) =
      stopped_come count u (ap (λ (x : WorldState). x.leaves) is) (ap (λ (x : WorldState). x.manager) is ∙ ap (performed (take count stops)) (recorded_manager write w))
  stopping u (IsPerforming.Within count unit there is) = absurd (none_within stops count unit no_restart_in_stops there)

  stop_step : (u : WorldState) → IsStopStep write stops w u → HasCome system owed order w u
  stop_step u (IsStopStep.Recording moment) = recording u moment
  stop_step u (IsStopStep.Stopping performing) = stopping u performing

  -- ---- after it

  abbrev v : WorldState
  v = with_stops write stops w

  abbrev x : WorldState
  x = with_loaded system v

  abbrev StandsLinked : Leaves → Lists → Type 0
  StandsLinked leaves kept = Stand w.leaves leaves (Some (system_leaf system)) kept

  current_x : get x.leaves current_place ≡ Some (system_leaf system)
  current_x = current_here system v

  alone_x : AreAlone x.leaves lists
  alone_x = current_alone system v lists recorded_alone

  manager_v : v.manager ≡ performed stops w.manager
  manager_v = ap (performed stops) (recorded_manager write w)

  manager_x : x.manager ≡ then_ready
  manager_x = ap (loading (definitions_of system)) manager_v

  -- where a list is to be cleared the log is a file, and without calls it has no names
  has_log : (which : Which) → HasLogFor which (listed which) x.leaves
  has_log which = log_for owed order (state_of w.manager.states) x.leaves alone_x which

  no_calls : (which : Which) → which ≢ Starts → listed which ≡ [] → list_names lists which ≡ []
  no_calls = no_listed owed order (state_of w.manager.states)

  -- ---- when a list has its turn

  abbrev turn : Which → WorldState
  turn which = world_at listed x which

  abbrev left : Which → Lists
  left which = lists_without lists (given_before which)

  abbrev before : Which → List Duty
  before which = flat_map listed (given_before which)

  abbrev after : Which → List Duty
  after which = flat_map listed (given_after which)

  alone_turn : (which : Which) → AreAlone (turn which).leaves (left which)
  alone_turn = alone_at listed x lists alone_x no_calls has_log

  current_turn : (which : Which) → get (turn which).leaves current_place ≡ Some (system_leaf system)
  current_turn which = all_given_current listed (given_before which) x ∙ current_x

  manager_turn : (which : Which) (part : List Duty) → performed part (turn which).manager ≡ performed (before which ++ part) then_ready
  manager_turn which part =
      ap (performed part) (all_given_manager listed (given_before which) x ∙ ap (performed (before which)) manager_x) ∙ sym (performed-append (before which) part then_ready)

  -- it can be cleared, and then no other lists stand than those that follow
  can_clear : (which : Which) → (which ≢ Starts → IsFileAt (turn which).leaves log_place) → CanClear which (turn which).leaves (left which)
  can_clear Starts file = refl
  can_clear which file = file (λ same. cc same)

  next_left : (which : Which) → with_list (left which) which [] ≡ lists_without lists (given_before which ++ which ∷ [])
  next_left which = without_more lists (given_before which) which

  next_made : (which : Which) → before which ++ listed which ≡ flat_map listed (given_before which ++ which ∷ []) ++ []
  next_made which =
      sym (append-nil (flat_map listed (given_before which ++ which ∷ [])) ∙ flat_map-append listed (given_before which) (which ∷ []) ∙ ap (λ cs. before which ++ cs) (append-nil (listed which)))

  itself : (manager : ManagerState) → IsLike manager manager
  itself manager = record { states = refl; bad = refl; journal = refl }

  -- ---- a moment by its calls and what stands

  at_calls : (u : WorldState) (made more : List Duty) (done : List Which) (which : Which) (part rest : List Duty) → listed which ≡ part ++ rest → made ≡ flat_map listed done ++ part →
      flat_map listed give_order ≡ made ++ more → u.manager ≡ performed made then_ready → StandsLinked u.leaves (lists_without lists done) → HasCome system owed order w u
  at_calls u made more done which part rest split are prefix manager stand =
      HasCome.Bringing made more (lists_without lists done) u.manager prefix (IsCalling.Calling done which part rest split are manager refl) (ap (λ (y : ManagerState). y.bad) manager)
      (ap (λ (y : ManagerState). y.journal) manager) (itself u.manager) stand

  at_half : (which : Which) (u : WorldState) (part rest : List Duty) (unit : Name) → renews which ≡ true → listed which ≡ part ++ duty Restart unit ∷ rest → u.manager ≡ halted unit (performed (before which ++ part) then_ready) →
      StandsLinked u.leaves (left which) → HasCome system owed order w u
  at_half which u part rest unit renewing split manager stand =
      let made = before which ++ part in
      HasCome.Bringing made ((duty Restart unit ∷ rest) ++ after which) (left which) u.manager (turn_split listed which part (duty Restart unit ∷ rest) split)
      (IsCalling.Halfway (given_before which) which part rest unit renewing (stands lists which) split refl manager refl) (ap (λ (y : ManagerState). y.bad) manager) (ap (λ (y : ManagerState). y.journal) manager)
      (itself u.manager) stand

  -- what stands in a world with the same leaves
  stands_as : (u y : WorldState) (kept : Lists) → u ≡ y → get y.leaves current_place ≡ Some (system_leaf system) → AreAlone y.leaves kept → StandsLinked u.leaves kept
  stands_as u y kept same current alone =
      subst (λ (leaves : Leaves). StandsLinked leaves kept) (sym (ap (λ (x : WorldState). x.leaves) same)) (alone_stands w.leaves y.leaves (Some (system_leaf system)) kept current alone)

  -- what stands where a list is being cleared
  stands_clear : (which : Which) (y u : WorldState) (kept now : Lists) → get y.leaves current_place ≡ Some (system_leaf system) → IsMoment (clearing which) y u → (c : IsClearing which kept w.leaves u) → c.now ≡ now →
      StandsLinked u.leaves now
  stands_clear which y u kept now current moment c is = record { current = cleared_current which y u moment ∙ current; listed = subst (AreListsAt u.leaves) is c.are; written = c.leaves }

  -- ---- the moments

  -- there is no restart among the calls of a list that brings no unit up anew
  no_restarts : (which : Which) → renews which ≡ false → AllByRecursion (λ call. is_restart call.act ≡ false) (listed which)
  no_restarts which stays =
      let states = state_of w.manager.states in
      all_of (λ call. is_restart call.act ≡ false) (act_on which states owed.stops) (list_names (with_list owed.lists Starts order) which)
      (λ unit. no_restart (stopped owed.stops states unit) (act_on which states owed.stops unit) (subst (λ b. IsActBy b (stopped owed.stops states unit) (act_on which states owed.stops unit)) stays (act_by which states owed.stops unit)))

  within : (which : Which) (u : WorldState) (count : ℕ) (unit : Name) → slice_get (listed which) count ≡ Some (duty Restart unit) →
      u ≡ with_manager (halted unit (performed (take count (listed which)) (turn which).manager)) (turn which) → HasCome system owed order w u
  within which u count unit there is =
      elim (cases_Bool (renews which)) [
        | inr stays ↦ absurd (none_within (listed which) count unit (no_restarts which stays) there)
        | inl renewing ↦
            let part = take count (listed which) in
            at_half which u part (drop (suc count) (listed which)) unit renewing (split_one (listed which) count (duty Restart unit) there)
            (ap (λ (y : WorldState). y.manager) is ∙ ap (halted unit) (manager_turn which part))
            (stands_as u (with_manager (halted unit (performed part (turn which).manager)) (turn which)) (left which) is (current_turn which) (alone_turn which))
      ]

  calling : (which : Which) (u : WorldState) → IsPerforming (listed which) (turn which) u → HasCome system owed order w u
  calling which u (IsPerforming.Within count unit there is) = within which u count unit there is
  calling which u (IsPerforming.After count is) =
      let part = take count (listed which) in let rest = drop count (listed which) in
      let split = sym (take-append-drop count (listed which)) in
      at_calls u (before which ++ part) (rest ++ after which) (given_before which) which part rest split refl (turn_split listed which part rest split)
      (ap (λ (y : WorldState). y.manager) is ∙ manager_turn which part) (stands_as u (with_calls part (turn which)) (left which) is (current_turn which) (alone_turn which))

  in_clearing : (which : Which) (u : WorldState) → IsMoment (clearing which) (with_calls (listed which) (turn which)) u → (which ≢ Starts → IsFileAt (turn which).leaves log_place) → HasCome system owed order w u
  in_clearing which u moment file =
      let y = with_calls (listed which) (turn which) in
      let made = before which ++ listed which in
      let c = clears (left which) w.leaves y u (alone_turn which) which (can_clear which file) moment in
      let manager : u.manager ≡ performed made then_ready = clearing_manager which y u moment ∙ manager_turn which (listed which) in
      let prefix = turn_split listed which (listed which) [] (sym (append-nil (listed which))) in
      elim c.either [
        | inl same ↦ at_calls u made (after which) (given_before which) which (listed which) [] (sym (append-nil (listed which))) refl prefix manager
            (stands_clear which y u (left which) (left which) (current_turn which) moment c same)
        | inr cleared ↦ at_calls u made (after which) (given_before which ++ which ∷ []) which [] (listed which) refl (next_made which) prefix manager
            (stands_clear which y u (left which) (lists_without lists (given_before which ++ which ∷ [])) (current_turn which) moment c (cleared ∙ next_left which))
      ]

  in_list : (which : Which) (u : WorldState) → IsListMoment which (listed which) (turn which) u → HasCome system owed order w u
  in_list which u moment = elim (list_step which (listed which) (turn which) u (log_at listed x lists alone_x no_calls has_log which) moment) [
    | inl part ↦ calling which u part
    | inr (cut, file) ↦ in_clearing which u cut file
  ]

  -- all is given
  given : (u : WorldState) → u ≡ with_all_given listed give_order x → HasCome system owed order w u
  given u is =
      let all = flat_map listed give_order in
      let end = with_all_given listed give_order x in
      at_calls u all [] give_order Starts [] (listed Starts) refl (sym (append-nil all)) (sym (append-nil all))
      (ap (λ (y : WorldState). y.manager) is ∙ all_given_manager listed give_order x ∙ ap (performed all) manager_x)
      (stands_as u end no_lists is (all_given_current listed give_order x ∙ current_x) (alone_end listed x lists alone_x no_calls has_log))

  giving : (u : WorldState) → IsGiveMoment listed give_order x u → HasCome system owed order w u
  giving u moment =
      elim (in_some_turn listed x u moment) [
        | inl (which, part) ↦ in_list which u part
        | inr is ↦ given u is
      ]

  bring_step : (u : WorldState) → IsBringStep system listed v u → HasCome system owed order w u
  bring_step u (IsBringStep.Waiting is) =
      stopped_come (length stops) u (ap (λ (y : WorldState). y.leaves) is) (ap (λ (y : WorldState). y.manager) is ∙ manager_v ∙ ap (λ cs. performed cs w.manager) (sym (take-length stops)))
  bring_step u (IsBringStep.Linked is) =
      let manager : u.manager ≡ performed stops w.manager = ap (λ (y : WorldState). y.manager) is ∙ manager_v in
      HasCome.Bringing [] (flat_map listed give_order) lists then_ready refl
      (IsCalling.Calling [] Starts [] (listed Starts) refl refl refl refl) refl refl
      (record {
        states = ap (λ (y : ManagerState). y.states) manager;
        bad = ap (λ (y : ManagerState). y.bad) manager;
        journal = ap (λ (y : ManagerState). y.journal) manager;
      })
      (stands_as u (with_current system v) lists is current_x alone_x)
  bring_step u (IsBringStep.Giving moment) = giving u moment

-- each moment of a switch of the units
pub has_come : (system : Name) (owed : Owed) (order : List Name) (w m : WorldState) → (AreCounted owed.lists → AreLists owed.lists) → AreSameBeside w m → IsUnitMoment system owed order w m →
    HasCome system owed order w m
has_come system owed order w m named beside (IsUnitMoment.Stopping write is u step same) =
    come_same system owed order w u m (stop_step system owed order w write is (named is.counted) u step) same
    (λ q inside. beside q (reads_store q inside) (not_owns_store q inside) ∙ sym (stop_elsewhere write (stop_calls owed) w u q (not_owns_store q inside) (store_not_stage q inside) step))
has_come system owed order w m named beside (IsUnitMoment.Bringing write is u step same) =
    come_same system owed order w u m (bring_step system owed order w write is (named is.counted) u step) same
    (λ q inside.
    beside q (reads_store q inside) (not_owns_store q inside)
    ∙ sym (bring_elsewhere q (not_owns_store q inside) (listed_calls owed order (state_of w.manager.states)) system (with_stops write (stop_calls owed) w) u step
    ∙ lists_elsewhere write w q (not_owns_store q inside) (store_not_stage q inside)))
