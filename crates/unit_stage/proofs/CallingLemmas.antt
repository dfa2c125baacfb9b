-- The moments of the calls after the link: what they make of the units.
use Rattle.std.proofs.Common.{◌≡◌, ◌⊎◌, ◌||◌, ◌++◌, ◌∷◌, Bool, true, false, IsTrue, List, [], map, if◌then◌else◌, refl, sym, ap, subst, ◌∙◌, inl, inr}
use Rattle.std.proofs.lemmas.Bool.{both_ways, or_left, or_right}
use Rattle.std.proofs.lemmas.List.Folds.{list_any-append}
use Rattle.std.proofs.lemmas.List.{append_assoc}
use Rattle.std.proofs.lemmas.List.Concat.{flat_map-append}
use Rattle.std.specs.List.{AllByRecursion, flat_map, list_any}
use Rattle.host_trait.specs.declared.entry.Act.{Act}
use Rattle.host_trait.specs.declared.entry.Act.TheVariants.{Stop, Reload, Restart, Start}
use Rattle.host_trait.specs.declared.manager_state.ManagerState.{ManagerState}
use Rattle.host_trait.specs.declared.unit_state.State.{State}
use Rattle.host_trait.specs.declared.unit_state.State.TheVariants.{Active, Inactive, Failed}
use Rattle.host_trait.specs.Manager.{acted, halted, is_active, state_after}
use Rattle.host_trait.specs.States.{state_of}
use Rattle.log_text.specs.declared.lists.Lists.{Lists}
use Rattle.log_text.specs.declared.lists.Which.{Which}
use Rattle.log_text.specs.declared.lists.Which.TheVariants.{Starts}
use Rattle.log_text.specs.Lists.{list_names, with_list}
use Rattle.owed_plan.specs.declared.duty.Duty.{Duty}
use Rattle.owed_plan.specs.declared.owed.Owed.{Owed}
use Rattle.owed_plan.specs.Calls.{act_on, duty, listed_calls}
use Rattle.owed_plan.specs.Law.{stopped}
use Rattle.owed_plan.specs.Lists.{is_listed, is_renewed, renews}
use Rattle.unit_stage.specs.Acts.{performed}
use Rattle.unit_stage.specs.Order.{ArrangesStarts}
use Rattle.owed_plan.specs.FinalStates.{brought_by}
use Rattle.unit_stage.proofs.ActLemmas.{brought_from, brought_to, state_with}
use Rattle.unit_stage.proofs.CallLemmas.{performed-append, same_bad, same_loaded}
use Rattle.switch_names.specs.Names.{Name, has, is_name}
use Rattle.host_trait.proofs.NameOrder.{name_exact, name_itself}
use Rattle.owed_plan.specs.Called.{AreCalled, IsCalled, IsDone, IsGiven, IsLeftOf}
use Rattle.owed_plan.proofs.KindLemmas.{listed_on, renewed_on}
use Rattle.unit_stage.proofs.ListCallLemmas.{IsActBy, act_by, in_any_order, set_list}

-- one of these calls was on the unit
abbrev pub is_called : List Duty → Name → Bool
is_called calls unit = list_any (λ call. is_name unit call.unit) calls

-- the lists once these are cleared
abbrev pub lists_without : Lists → List Which → Lists
lists_without lists [] = lists
lists_without lists (which ∷ done) = lists_without (with_list lists which []) done

-- These calls have been made since the definitions were loaded, the manager has come to this, and these lists stand: the calls of
-- some lists, which are cleared, and some of those of another; a restart may be half way through, where that other list asks for it.
pub data IsCalling (owed : Owed) (order : List Name) (states : Name → State) (ready : ManagerState) (made : List Duty) (m : ManagerState) (kept : Lists) : Type 0 where
  Calling : (done : List Which) (which : Which) (part rest : List Duty) → listed_calls owed order states which ≡ part ++ rest → made ≡ flat_map (listed_calls owed order states) done ++ part →
      m ≡ performed made ready → kept ≡ lists_without owed.lists done → IsCalling owed order states ready made m kept
  Halfway : (done : List Which) (which : Which) (part rest : List Duty) (unit : Name) → renews which ≡ true → list_names (lists_without owed.lists done) which ≡ list_names owed.lists which →
      listed_calls owed order states which ≡ part ++ duty Restart unit ∷ rest → made ≡ flat_map (listed_calls owed order states) done ++ part → m ≡ halted unit (performed made ready) →
      kept ≡ lists_without owed.lists done → IsCalling owed order states ready made m kept

-- ---- lists that are cleared

-- a list is empty, and among those that are cleared
pub record IsCleared (lists : Lists) (done : List Which) (one : Which) : Type 0 where
  pub empty : list_names lists one ≡ []
  pub first : List Which
  pub last : List Which
  pub among : done ≡ first ++ one ∷ last

-- a list is as it was, or among those that are cleared
kept_or_cleared : (done : List Which) (lists : Lists) (one : Which) → (list_names (lists_without lists done) one ≡ list_names lists one) ⊎ IsCleared (lists_without lists done) done one
kept_or_cleared [] lists one = inl refl
kept_or_cleared (which ∷ done) lists one = by (kept_or_cleared done (with_list lists which []) one) (set_list lists which [] one)
  where
    by : (list_names (lists_without lists (which ∷ done)) one ≡ list_names (with_list lists which []) one) ⊎ IsCleared (lists_without lists (which ∷ done)) done one →
        (list_names (with_list lists which []) one ≡ list_names lists one) ⊎ ((list_names (with_list lists which []) one ≡ []) × (which ≡ one)) →
        (list_names (lists_without lists (which ∷ done)) one ≡ list_names lists one) ⊎ IsCleared (lists_without lists (which ∷ done)) (which ∷ done) one
    by (inr cleared) either = inr (record { empty = cleared.empty; first = which ∷ cleared.first; last = cleared.last; among = ap (λ ws. which ∷ ws) cleared.among })
    by (inl same) (inl kept) = inl (same ∙ kept)
    by (inl same) (inr cleared) = inr (record { empty = same ∙ cleared.0; first = []; last = done; among = ap (λ w. w ∷ done) cleared.1 })

-- ---- one unit

module _ (owed : Owed) (unit : Name) (to before : State) where
  abbrev Is : State → Type 0
  Is now = IsCalled owed unit to before now

  abbrev started : State → State
  started now = if is_active now then Active else to

  -- a start
  start_called : (now : State) → is_listed owed.lists unit ≡ true → Is now → Is (started now)
  start_called Active brought is = is
  start_called Inactive brought (IsCalled.NotYet same) = IsCalled.Brought brought (λ e. cc (same ∙ e)) refl
  start_called Inactive brought (IsCalled.Brought _ down is) = IsCalled.Brought brought down refl
  start_called Inactive brought (IsCalled.Renewed renewed is) = IsCalled.Renewed renewed refl
  start_called Inactive brought (IsCalled.Halfway renewed is) = IsCalled.Renewed renewed refl
  start_called Failed brought (IsCalled.NotYet same) = IsCalled.Brought brought (λ e. cc (same ∙ e)) refl
  start_called Failed brought (IsCalled.Brought _ down is) = IsCalled.Brought brought down refl
  start_called Failed brought (IsCalled.Renewed renewed is) = IsCalled.Renewed renewed refl
  start_called Failed brought (IsCalled.Halfway renewed is) = IsCalled.Renewed renewed refl

  start_given : (now : State) → Is now → IsGiven owed unit to before (started now)
  start_given Active (IsCalled.NotYet same) = inr (inl (sym same))
  start_given Active (IsCalled.Brought brought down is) = inr (inr is)
  start_given Active (IsCalled.Renewed renewed is) = inl renewed
  start_given Active (IsCalled.Halfway renewed is) = inl renewed
  start_given Inactive is = inr (inr refl)
  start_given Failed is = inr (inr refl)

  -- what is brought to its state stays there
  start_stays : (now : State) → now ≡ to → started now ≡ to
  start_stays Active is = is
  start_stays Inactive is = refl
  start_stays Failed is = refl

-- ---- calls

module _ (owed : Owed) (then_ : Name → State) where
  -- a call that is owed
  abbrev IsOwedCall : Act → Name → Type 0
  IsOwedCall Stop unit = ⊥
  IsOwedCall Reload unit = then_ unit ≡ Active
  IsOwedCall Restart unit = is_renewed owed.lists unit ≡ true
  IsOwedCall Start unit = is_listed owed.lists unit ≡ true

  abbrev AreOwed : List Duty → Type 0
  AreOwed calls = AllByRecursion (λ call. IsOwedCall call.act call.unit) calls

  all_append : (calls more : List Duty) → AreOwed (calls ++ more) → AreOwed calls × AreOwed more
  all_append [] more all = (tt, all)
  all_append (call ∷ calls) more all = let rest = all_append calls more all.1 in ((all.0, rest.0), rest.1)

  all_of : (act : Name → Act) (names : List Name) → ((unit : Name) → has names unit ≡ true → IsOwedCall (act unit) unit) → AreOwed (map (λ unit. duty (act unit) unit) names)
  all_of act [] each = tt
  all_of act (name ∷ names) each =
      (each name (or_left (is_name name name) (has names name) (name_itself name)), all_of act names (λ unit found. each unit (or_right (is_name unit name) (has names unit) found)))

  module _ (unit : Name) (manager : ManagerState) where
    abbrev to : State
    to = brought_by manager.loaded manager.bad unit

    abbrev now : State
    now = state_of manager.states unit

    -- a property of the unit's state that each act on the unit keeps is kept by a call
    turn : (P : State → Type 0) (act : Act) (name : Name) → (unit ≡ name → P (state_after act unit manager)) → P now → P (state_of (acted act name manager).states unit)
    turn P act name on is =
        subst P (sym (state_with manager.states name (state_after act name manager) unit))
        (elim (is_name unit name) as (λ b. is_name unit name ≡ b → P (if b then state_after act name manager else now)) [
          | true ↦ λ same. subst (λ n. P (state_after act n manager)) (name_exact unit name same) (on (name_exact unit name same))
          | false ↦ λ other. is
        ] refl)

    acted_called : (act : Act) → IsOwedCall act unit → IsCalled owed unit to (then_ unit) now → IsCalled owed unit to (then_ unit) (state_after act unit manager)
    acted_called Stop call is = absurd call
    acted_called Reload call is = is
    acted_called Restart call is = IsCalled.Renewed call refl
    acted_called Start call is = start_called owed unit to (then_ unit) now call is

    acted_to : (act : Act) → IsOwedCall act unit → now ≡ to → state_after act unit manager ≡ to
    acted_to Stop call is = absurd call
    acted_to Reload call is = is
    acted_to Restart call is = refl
    acted_to Start call is = start_stays owed unit to (then_ unit) now is

  -- after some calls each unit is where calls bring it
  calls_called : (calls : List Duty) (manager : ManagerState) (unit : Name) → AreOwed calls →
      IsCalled owed unit (to unit manager) (then_ unit) (now unit manager) → IsCalled owed unit (to unit manager) (then_ unit) (now unit (performed calls manager))
  calls_called [] manager unit all is = is
  calls_called (call ∷ calls) manager unit all is =
      calls_called calls (acted call.act call.unit manager) unit all.1
      (turn unit manager (λ state. IsCalled owed unit (to unit manager) (then_ unit) state) call.act call.unit
      (λ same. acted_called unit manager call.act (subst (IsOwedCall call.act) (sym same) all.0) is) is)

  -- what is brought to its state stays there
  calls_stay : (calls : List Duty) (manager : ManagerState) (unit : Name) → AreOwed calls → now unit manager ≡ to unit manager → now unit (performed calls manager) ≡ to unit manager
  calls_stay [] manager unit all is = is
  calls_stay (call ∷ calls) manager unit all is =
      calls_stay calls (acted call.act call.unit manager) unit all.1
      (turn unit manager (λ state. state ≡ to unit manager) call.act call.unit (λ same. acted_to unit manager call.act (subst (IsOwedCall call.act) (sym same) all.0) is) is)

  given_stays : (calls : List Duty) (manager : ManagerState) (unit : Name) → AreOwed calls → IsGiven owed unit (to unit manager) (then_ unit) (now unit manager) →
      IsGiven owed unit (to unit manager) (then_ unit) (now unit (performed calls manager))
  given_stays calls manager unit all (inl renewed) = inl renewed
  given_stays calls manager unit all (inr (inl up)) = inr (inl up)
  given_stays calls manager unit all (inr (inr is)) = inr (inr (calls_stay calls manager unit all is))

-- ---- lists of calls

pub called_on : (act : Name → Act) (names : List Name) (unit : Name) → is_called (map (λ u. duty (act u) u) names) unit ≡ has names unit
called_on act [] unit = refl
called_on act (name ∷ names) unit = ap (λ b. is_name unit name || b) (called_on act names unit)

-- a unit of these calls is called, whatever was called before and after
pub called_among : (calls names more : List Duty) (unit : Name) → is_called names unit ≡ true → is_called ((calls ++ names) ++ more) unit ≡ true
called_among calls names more unit found =
    let test : Duty → Bool = λ call. is_name unit call.unit in
    list_any-append test (calls ++ names) more ∙ or_left (is_called (calls ++ names) unit) (is_called more unit)
    (list_any-append test calls names ∙ or_right (is_called calls unit) (is_called names unit) found)

-- a call among those of a list is on one of its units
called_first : (act : Name → Act) (names : List Name) (part rest : List Duty) (name : Name) → map (λ u. duty (act u) u) names ≡ part ++ duty Restart name ∷ rest → has names name ≡ true
called_first act names part rest name split =
    let test : Duty → Bool = λ call. is_name name call.unit in
    sym (called_on act names name) ∙ ap (list_any test) split ∙ list_any-append test part (duty Restart name ∷ rest)
    ∙ or_right (list_any test part) (is_name name name || list_any test rest) (or_left (is_name name name) (list_any test rest) (name_itself name))

-- of a removed list nothing is left
nothing_left : (names : List Name) (unit : Name) → has [] unit ≡ true → has names unit ≡ true
nothing_left names unit found = absurd (both_ways false refl found)

module _ (owed : Owed) (order : List Name) (arranges : ArrangesStarts owed order) (states : Name → State) (ready : ManagerState) (is_ready : (unit : Name) → state_of ready.states unit ≡ stopped owed.stops states unit) where
  abbrev before : Name → State
  before = stopped owed.stops states

  abbrev brings : Name → State
  brings = brought_by ready.loaded ready.bad

  abbrev Owe : List Duty → Type 0
  Owe = AreOwed owed before

  abbrev listed : Which → List Duty
  listed = listed_calls owed order states

  abbrev names_of : Which → List Name
  names_of which = list_names (with_list owed.lists Starts order) which

  abbrev act_of : Which → Name → Act
  act_of which = act_on which states owed.stops

  -- the calls of each list are owed
  call_owed : (which : Which) (unit : Name) → has (list_names owed.lists which) unit ≡ true → IsOwedCall owed before (act_of which unit) unit
  call_owed which unit found = by (renews which) refl (act_of which unit) (act_by which states owed.stops unit)
    where
      by : (renewing : Bool) → renews which ≡ renewing → (act : Act) → IsActBy renewing (before unit) act → IsOwedCall owed before act unit
      by true renewing act restart = subst (λ a. IsOwedCall owed before a unit) (sym restart) (renewed_on owed.lists unit which renewing found)
      by false stays act (inl start) = subst (λ a. IsOwedCall owed before a unit) (sym start) (listed_on owed.lists unit which found)
      by false stays act (inr reload) = subst (λ a. IsOwedCall owed before a unit) (sym reload.0) reload.1

  calls_owed : (which : Which) → Owe (listed which)
  calls_owed which = all_of owed before (act_of which) (names_of which) (λ unit found. call_owed which unit (sym (in_any_order owed order arranges which unit) ∙ found))

  owe_append : (calls more : List Duty) → Owe calls → Owe more → Owe (calls ++ more)
  owe_append [] more all rest = rest
  owe_append (call ∷ calls) more all rest = (all.0, owe_append calls more all.1 rest)

  owe_all : (done : List Which) → Owe (flat_map listed done)
  owe_all [] = tt
  owe_all (which ∷ done) = owe_append (listed which) (flat_map listed done) (calls_owed which) (owe_all done)

  owe_part : (all part rest : List Duty) → Owe all → all ≡ part ++ rest → Owe part × Owe rest
  owe_part all part rest owe is = all_append owed before part rest (subst Owe is owe)

  -- where calls have brought the units
  units_of : (made : List Duty) → Owe made → (unit : Name) → IsCalled owed unit (brings unit) (before unit) (state_of (performed made ready).states unit)
  units_of made owe unit = calls_called owed before made ready unit owe (IsCalled.NotYet (is_ready unit))

  module _ (act : Name → Act) (names : List Name) (first more : List Duty) (owe_first : Owe first) (owe_more : Owe more) (unit : Name) (found : has names unit ≡ true) where
    abbrev calls : List Duty
    calls = map (λ u. duty (act u) u) names

    abbrev mid : ManagerState
    mid = performed calls (performed first ready)

    abbrev after_act : State → State
    after_act state = brought_from (act unit) ready.loaded ready.bad unit state

    mid_state : state_of mid.states unit ≡ after_act (state_of (performed first ready).states unit)
    mid_state =
        brought_to act names (performed first ready) ready.loaded ready.bad unit (state_of (performed first ready).states unit) (same_loaded first ready) (same_bad first ready) refl
        ∙ ap (λ b. if b then after_act (state_of (performed first ready).states unit) else state_of (performed first ready).states unit) found

    mid_to : brought_by mid.loaded mid.bad unit ≡ brings unit
    mid_to = λ i. brought_by ((same_loaded calls (performed first ready) ∙ same_loaded first ready) i) ((same_bad calls (performed first ready) ∙ same_bad first ready) i) unit

    last : performed more mid ≡ performed ((first ++ calls) ++ more) ready
    last = sym (performed-append (first ++ calls) more ready ∙ ap (performed more) (performed-append first calls ready))

    -- what the act makes of the unit stays
    reached : (P : State → State → Type 0) → (P (brought_by mid.loaded mid.bad unit) (state_of mid.states unit) → P (brought_by mid.loaded mid.bad unit) (state_of (performed more mid).states unit)) →
        ((state : State) → IsCalled owed unit (brings unit) (before unit) state → P (brings unit) (after_act state)) →
        P (brings unit) (state_of (performed ((first ++ calls) ++ more) ready).states unit)
    reached P stays reach =
        subst (λ (m : ManagerState). P (brings unit) (state_of m.states unit)) last
        (subst (λ t. P t (state_of mid.states unit) → P t (state_of (performed more mid).states unit)) mid_to stays
        (subst (P (brings unit)) (sym mid_state) (reach (state_of (performed first ready).states unit) (units_of first owe_first unit))))

    list_given : ((state : State) → IsCalled owed unit (brings unit) (before unit) state → IsGiven owed unit (brings unit) (before unit) (after_act state)) →
        IsGiven owed unit (brings unit) (before unit) (state_of (performed ((first ++ calls) ++ more) ready).states unit)
    list_given = reached (λ to now. IsGiven owed unit to (before unit) now) (given_stays owed before more mid unit owe_more)

    list_brought : ((state : State) → IsCalled owed unit (brings unit) (before unit) state → after_act state ≡ brings unit) →
        state_of (performed ((first ++ calls) ++ more) ready).states unit ≡ brings unit
    list_brought = reached (λ to now. now ≡ to) (calls_stay owed before more mid unit owe_more)

    paid : is_called ((first ++ calls) ++ more) unit ≡ true
    paid = called_among first calls more unit (called_on act names unit ∙ found)

  -- an act that is owed gives
  act_given : (act : Act) (unit : Name) → IsOwedCall owed before act unit → (state : State) → IsCalled owed unit (brings unit) (before unit) state →
      IsGiven owed unit (brings unit) (before unit) (brought_from act ready.loaded ready.bad unit state)
  act_given Stop unit call state is = absurd call
  act_given Reload unit call state is = inr (inl call)
  act_given Restart unit call state is = inl call
  act_given Start unit call state is = start_given owed unit (brings unit) (before unit) state is

  abbrev at : List Duty → Name → State
  at made = state_of (performed made ready).states

  -- a list is done with after its calls
  module _ (kept : Lists) where
    abbrev Done : Which → List Duty → Name → Type 0
    Done which made unit = IsDone (renews which) kept owed unit (brings unit) (before unit) (at made unit) × IsTrue (is_called made unit)

    list_done : (which : Which) (first more : List Duty) → Owe first → Owe more → (unit : Name) → has (list_names owed.lists which) unit ≡ true → Done which ((first ++ listed which) ++ more) unit
    list_done which first more owe_first owe_more unit found = (by (renews which) (act_of which unit) (act_by which states owed.stops unit) refl, paid (act_of which) (names_of which) first more owe_first owe_more unit called)
      where
        called : has (names_of which) unit ≡ true
        called = in_any_order owed order arranges which unit ∙ found

        by : (renewing : Bool) (act : Act) → IsActBy renewing (before unit) act → act_of which unit ≡ act → IsDone renewing kept owed unit (brings unit) (before unit) (at ((first ++ listed which) ++ more) unit)
        by true act restart same =
            inl (list_brought (act_of which) (names_of which) first more owe_first owe_more unit called (λ state is. ap (λ a. brought_from a ready.loaded ready.bad unit state) (same ∙ restart)))
        by false act is same = list_given (act_of which) (names_of which) first more owe_first owe_more unit called (act_given (act_of which unit) unit (call_owed which unit found))

    -- so is each of these lists after the calls of all of them
    among_done : (done : List Which) (part : List Duty) → Owe part → (lists : Lists) (which : Which) → IsCleared lists done which → (unit : Name) → has (list_names owed.lists which) unit ≡ true →
        Done which (flat_map listed done ++ part) unit
    among_done done part owe lists which cleared unit found =
        let first = flat_map listed cleared.first in let last = flat_map listed cleared.last in
        let split : flat_map listed done ++ part ≡ (first ++ listed which) ++ (last ++ part) =
        ap (λ calls. calls ++ part) (ap (flat_map listed) cleared.among ∙ flat_map-append listed cleared.first (which ∷ cleared.last) ∙ sym (append_assoc first (listed which) last)) ∙ append_assoc (first ++ listed which) last part in
        subst (λ made. Done which made unit) (sym split)
        (list_done which first (last ++ part) (owe_all cleared.first) (owe_append last part (owe_all cleared.last) owe) unit found)

  -- half way through a restart for a list that stands
  module _ (made : List Duty) (kept : Lists) (which : Which) (renewing : renews which ≡ true) (stands : list_names kept which ≡ list_names owed.lists which) (name : Name)
      (listed : has (list_names owed.lists which) name ≡ true) (unit : Name) where
    abbrev half : State
    half = state_of (halted name (performed made ready)).states unit

    halves : (P : State → Type 0) → (has (list_names owed.lists which) unit ≡ true → P Inactive) → P (at made unit) → P half
    halves P on is =
        subst P (sym (state_with (performed made ready).states name Inactive unit))
        (elim (is_name unit name) as (λ b. is_name unit name ≡ b → P (if b then Inactive else at made unit)) [
          | true ↦ λ same. on (subst (λ n. has (list_names owed.lists which) n ≡ true) (sym (name_exact unit name same)) listed)
          | false ↦ λ other. is
        ] refl)

    half_units : Owe made → IsCalled owed unit (brings unit) (before unit) half
    half_units owe = halves (IsCalled owed unit (brings unit) (before unit)) (λ found. IsCalled.Halfway (renewed_on owed.lists unit which renewing found) refl) (units_of made owe unit)

    half_done : (other : Bool) → IsDone other kept owed unit (brings unit) (before unit) (at made unit) → IsDone other kept owed unit (brings unit) (before unit) half
    half_done true is =
        halves (IsDone true kept owed unit (brings unit) (before unit)) (λ found. inr (renewed_on kept unit which renewing (ap (λ names. has names unit) stands ∙ found))) is
    half_done false is = halves (IsGiven owed unit (brings unit) (before unit)) (λ found. inl (renewed_on owed.lists unit which renewing found)) is

  abbrev Called : List Duty → (Name → State) → Lists → Type 0
  Called made now kept = AreCalled owed brings before now kept (is_called made)

  -- a list stands as it was recorded, or it is cleared and done with
  abbrev Left : (Name → State) → List Duty → Lists → Which → Type 0
  Left now made kept which = IsLeftOf (list_names owed.lists which) (list_names kept which) (λ unit. IsDone (renews which) kept owed unit (brings unit) (before unit) (now unit) × IsTrue (is_called made unit))

  module _ (done : List Which) (now : Name → State) (made : List Duty) where
    abbrev left_lists : Lists
    left_lists = lists_without owed.lists done

    left_of : (which : Which) → (IsCleared left_lists done which → (unit : Name) → has (list_names owed.lists which) unit ≡ true →
        IsDone (renews which) left_lists owed unit (brings unit) (before unit) (now unit) × IsTrue (is_called made unit)) → Left now made left_lists which
    left_of which is_done = elim (kept_or_cleared done owed.lists which) [
      | inl same ↦ IsLeftOf.Stands same
      | inr cleared ↦ IsLeftOf.Removed (λ unit found. nothing_left (list_names owed.lists which) unit (sym (ap (λ names. has names unit) cleared.empty) ∙ found)) (is_done cleared)
    ]

    called_so : ((unit : Name) → IsCalled owed unit (brings unit) (before unit) (now unit)) → ((which : Which) → Left now made left_lists which) → Called made now left_lists
    called_so units left = record { units = units; kept_lists = left }

  moment : (made : List Duty) (m : ManagerState) (kept : Lists) → IsCalling owed order states ready made m kept → Called made (state_of m.states) kept
  moment made m kept (IsCalling.Calling done which part rest prefix all is stand) =
      let owe = (owe_part (listed which) part rest (calls_owed which) prefix).0 in
      let calls = flat_map listed done ++ part in
      let left = lists_without owed.lists done in
      subst (λ (n : ManagerState). Called made (state_of n.states) kept) (sym is)
      (subst (λ calls. Called calls (at calls) kept) (sym all)
      (subst (Called calls (at calls)) (sym stand)
      (called_so done (at calls) calls (units_of calls (owe_append (flat_map listed done) part (owe_all done) owe)) (λ one. left_of done (at calls) calls one (among_done left done part owe left one)))))
  moment made m kept (IsCalling.Halfway done which part rest name renewing stands prefix all is stand) =
      let owes = owe_part (listed which) part (duty Restart name ∷ rest) (calls_owed which) prefix in
      let calls = flat_map listed done ++ part in
      let left = lists_without owed.lists done in
      let now = state_of (halted name (performed calls ready)).states in
      let found = sym (in_any_order owed order arranges which name) ∙ called_first (act_of which) (names_of which) part rest name prefix in
      subst (λ (n : ManagerState). Called made (state_of n.states) kept) (sym is)
      (subst (λ calls. Called calls (state_of (halted name (performed calls ready)).states) kept) (sym all)
      (subst (Called calls now) (sym stand)
      (called_so done now calls (λ unit. half_units calls left which renewing stands name found unit (owe_append (flat_map listed done) part (owe_all done) owes.0))
      (λ one. left_of done now calls one (λ cleared unit on.
      let given = among_done left done part owes.0 left one cleared unit on in
      (half_done calls left which renewing stands name found unit (renews one) given.0, given.1))))))

-- at each of these moments the units are in the states to which the calls bring them, and each list outlives its calls
pub calling_law : (owed : Owed) (order : List Name) → ArrangesStarts owed order → (states : Name → State) (ready m : ManagerState) (made : List Duty) (kept : Lists) →
    ((unit : Name) → state_of ready.states unit ≡ stopped owed.stops states unit) → IsCalling owed order states ready made m kept →
    AreCalled owed (brought_by ready.loaded ready.bad) (stopped owed.stops states) (state_of m.states) kept (is_called made)
calling_law owed order arranges states ready m made kept is_ready calling = moment owed order arranges states ready is_ready made m kept calling
