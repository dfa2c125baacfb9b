-- The states and the journal after all that is owed.
use Rattle.std.proofs.Common.{◌≡◌, ◌&&◌, ◌||◌, Bool, true, false, ℕ, List, [], ◌++◌, ◌∷◌, map, if◌then◌else◌, refl, sym, ap, subst, ◌∙◌, inl, inr}
use Rattle.std.proofs.lemmas.List.{append-nil, append_assoc}
use Rattle.std.proofs.lemmas.List.Concat.{flat_map-append}
use Rattle.std.proofs.Math.Bool.{or-false, or_assoc}
use Rattle.std.specs.List.{AllByRecursion, flat_map, list_any}
use Rattle.host_trait.specs.declared.entry.Act.{Act}
use Rattle.host_trait.specs.declared.entry.Act.TheVariants.{Reload, Restart, Start}
use Rattle.host_trait.specs.declared.entry.Bad.{Bad}
use Rattle.host_trait.specs.declared.manager_state.ManagerState.{ManagerState}
use Rattle.host_trait.specs.declared.unit_state.State.{State}
use Rattle.host_trait.specs.declared.unit_state.State.TheVariants.{Active, Inactive, Failed}
use Rattle.host_trait.specs.Manager.{is_active, is_bad, loading}
use Rattle.host_trait.specs.States.{state_of}
use Rattle.log_text.specs.declared.lists.Which.{Which}
use Rattle.log_text.specs.declared.lists.Which.TheVariants.{Starts}
use Rattle.log_text.specs.Lists.{list_names, with_list}
use Rattle.owed_plan.specs.declared.duty.Duty.{Duty}
use Rattle.owed_plan.specs.declared.owed.Owed.{Owed}
use Rattle.owed_plan.specs.Calls.{act_on, give_order, listed_calls, stop_calls}
use Rattle.owed_plan.specs.FinalStates.{brought_by, final_state}
use Rattle.owed_plan.specs.Law.{stopped}
use Rattle.owed_plan.specs.Lists.{is_listed, is_renewed, renews}
use Rattle.owed_plan.specs.Owed.{sockets_first}
use Rattle.owed_plan.proofs.FinalLemmas.{final_by, final_of}
use Rattle.owed_plan.proofs.NameLemmas.{has-sockets_first}
use Rattle.switch_names.specs.Names.{Name, has}
use Rattle.unit_stage.specs.Acts.{CanPerform, entry_of, performed}
use Rattle.unit_stage.specs.Order.{ArrangesStarts}
use Rattle.unit_stage.proofs.ActLemmas.{after_stops, brought_from, brought_to, can_act, can_stop}
use Rattle.unit_stage.proofs.CallLemmas.{can-append, entered, performed-append, same_bad, same_loaded}
use Rattle.unit_stage.proofs.ListCallLemmas.{CanFollow, IsActBy, act_by, any_given, can_follow, in_any_order}
use Rattle.unit_decide.specs.Facts.{unit_kind}

-- ---- one unit, and the calls of one list more

-- a restart brings a unit up anew, a start brings up one that isn't, and a reload leaves one that is
given_more : (renewing on : Bool) (act : Act) (loaded : List ℕ) (bad : List Bad) (unit : Name) (was : State) → IsActBy renewing was act → (renewed listed : Bool) →
    (if on then brought_from act loaded bad unit (final_of renewed listed was (brought_by loaded bad unit)) else final_of renewed listed was (brought_by loaded bad unit))
    ≡ final_of (renewed || renewing && on) (listed || on) was (brought_by loaded bad unit)
given_more true true act loaded bad unit was is renewed listed =
    ap (λ a. brought_from a loaded bad unit (final_of renewed listed was (brought_by loaded bad unit))) is ∙ anew renewed
  where
    anew : (renewed : Bool) → brought_by loaded bad unit ≡ final_of (renewed || true) (listed || true) was (brought_by loaded bad unit)
    anew true = refl
    anew false = refl
given_more false true act loaded bad unit was (inl start) renewed listed =
    ap (λ a. brought_from a loaded bad unit (final_of renewed listed was (brought_by loaded bad unit))) start ∙ started (is_bad bad loaded unit) renewed listed was
  where
    started : (is renewed listed : Bool) (was : State) →
        (
        if is_active (final_of renewed listed was (if is then Failed else Active)) then Active
        else if is then Failed else Active)
        ≡ final_of (renewed || false) (listed || true) was (if is then Failed else Active)
    started true true listed was = refl
    started false true listed was = refl
    started true false true Active = refl
    started true false true Inactive = refl
    started true false true Failed = refl
    started false false true Active = refl
    started false false true Inactive = refl
    started false false true Failed = refl
    started true false false Active = refl
    started true false false Inactive = refl
    started true false false Failed = refl
    started false false false Active = refl
    started false false false Inactive = refl
    started false false false Failed = refl
given_more false true act loaded bad unit was (inr reload) renewed listed =
    ap (λ a. brought_from a loaded bad unit (final_of renewed listed was (brought_by loaded bad unit))) reload.0 ∙ left (brought_by loaded bad unit) renewed listed was reload.1
  where
    left : (to : State) (renewed listed : Bool) (was : State) → was ≡ Active → final_of renewed listed was to ≡ final_of (renewed || false) (listed || true) was to
    left to true listed was up = refl
    left to false true was up = refl
    left to false false Active up = refl
    left to false false Inactive up = absurd cc
    left to false false Failed up = absurd cc
given_more true false act loaded bad unit was is renewed listed = λ i. final_of (sym (or-false renewed) i) (sym (or-false listed) i) was (brought_by loaded bad unit)
given_more false false act loaded bad unit was is renewed listed = λ i. final_of (sym (or-false renewed) i) (sym (or-false listed) i) was (brought_by loaded bad unit)

-- what is up after the stops is so still, until units are brought up anew
still_up : (listed : Bool) (was to : State) → was ≡ Active → final_of false listed was to ≡ Active
still_up true Active to up = refl
still_up true Inactive to up = absurd cc
still_up true Failed to up = absurd cc
still_up false was to up = up

-- no list among these that brings units up anew
none_renewed : (on : Which → Bool) (done : List Which) → AllByRecursion (λ which. renews which ≡ false) done → list_any (λ which. renews which && on which) done ≡ false
none_renewed on [] none = refl
none_renewed on (which ∷ done) none = ap (λ b. b && on which || list_any (λ one. renews one && on one) done) none.0 ∙ none_renewed on done none.1

-- ---- the stops

module _ (owed : Owed) (manager : ManagerState) where
  pub can_stops : CanPerform (stop_calls owed) manager
  can_stops = can_stop (sockets_first unit_kind owed.stops) manager

  -- the stops leave their units inactive
  pub after_all_stops : (unit : Name) → state_of (performed (stop_calls owed) manager).states unit ≡ stopped owed.stops (state_of manager.states) unit
  after_all_stops unit =
      after_stops (sockets_first unit_kind owed.stops) manager unit
      ∙ ap (λ b. if b then Inactive else state_of manager.states unit) (has-sockets_first unit_kind owed.stops unit)

-- ---- all that is owed: the stops, and, with the definitions loaded, the calls of each list

module _ (owed : Owed) (text : List ℕ) (before : ManagerState) where
  abbrev states : Name → State
  states = state_of before.states

  abbrev pub ready : ManagerState
  ready = loading text (performed (stop_calls owed) before)

  module _ (order : List Name) where
    abbrev listed : Which → List Duty
    listed = listed_calls owed order states

    abbrev pub calls : List Duty
    calls = flat_map listed give_order

    abbrev pub given_all : ManagerState
    given_all = performed calls ready

    -- each stop is entered with what was loaded before, and each other call with what is loaded now
    pub all_entered : given_all.journal ≡ before.journal ++ (map (entry_of before.loaded) (stop_calls owed) ++ map (entry_of text) calls)
    all_entered =
        entered calls ready ∙ ap (λ entries. entries ++ map (entry_of text) calls) (entered (stop_calls owed) before)
        ∙ append_assoc before.journal (map (entry_of before.loaded) (stop_calls owed)) (map (entry_of text) calls)

    module _ (arranges : ArrangesStarts owed order) where
      module _ (unit : Name) where
        abbrev was : State
        was = stopped owed.stops states unit

        abbrev to : State
        to = brought_by text before.bad unit

        abbrev on : Which → Bool
        on which = has (list_names owed.lists which) unit

        abbrev renewed : List Which → Bool
        renewed done = list_any (λ which. renews which && on which) done

        abbrev found : List Which → Bool
        found done = list_any on done

        -- the calls of one list more
        one_more : (which : Which) (made : List Duty) (is_renewed is_found : Bool) → state_of (performed made ready).states unit ≡ final_of is_renewed is_found was to →
            state_of (performed (made ++ listed which) ready).states unit ≡ final_of (is_renewed || renews which && on which) (is_found || on which) was to
        one_more which made is_renewed is_found so_far =
            ap (λ (m : ManagerState). state_of m.states unit) (performed-append made (listed which) ready)
            ∙ brought_to (act_on which states owed.stops) (list_names (with_list owed.lists Starts order) which) (performed made ready) text before.bad unit (final_of is_renewed is_found was to)
            (same_loaded made ready) (same_bad made ready ∙ same_bad (stop_calls owed) before) so_far
            ∙ ap (λ b. if b then brought_from (act_on which states owed.stops unit) text before.bad unit (final_of is_renewed is_found was to) else final_of is_renewed is_found was to)
            (in_any_order owed order arranges which unit)
            ∙ given_more (renews which) (on which) (act_on which states owed.stops unit) text before.bad unit was (act_by which states owed.stops unit) is_renewed is_found

        all_more : (left : List Which) (made : List Duty) (is_renewed is_found : Bool) → state_of (performed made ready).states unit ≡ final_of is_renewed is_found was to →
            state_of (performed (made ++ flat_map listed left) ready).states unit ≡ final_of (is_renewed || renewed left) (is_found || found left) was to
        all_more [] made is_renewed is_found so_far =
            ap (λ cs. state_of (performed cs ready).states unit) (append-nil made) ∙ so_far ∙ (λ i. final_of (sym (or-false is_renewed) i) (sym (or-false is_found) i) was to)
        all_more (which ∷ left) made is_renewed is_found so_far =
            ap (λ cs. state_of (performed cs ready).states unit) (sym (append_assoc made (listed which) (flat_map listed left)))
            ∙ all_more left (made ++ listed which) (is_renewed || renews which && on which) (is_found || on which) (one_more which made is_renewed is_found so_far)
            ∙ (λ i. final_of (or_assoc is_renewed (renews which && on which) (renewed left) i) (or_assoc is_found (on which) (found left) i) was to)

        -- after the calls of some lists
        after_lists : (done : List Which) → state_of (performed (flat_map listed done) ready).states unit ≡ final_of (renewed done) (found done) was to
        after_lists done = all_more done [] false false (after_all_stops owed before unit)

        -- each unit is in the state of the table
        pub final_states : state_of given_all.states unit ≡ final_state owed text before.bad states unit
        final_states =
            after_lists give_order ∙ (λ i. final_of (any_given (λ which. renews which && on which) i) (any_given on i) was to)
            ∙ sym (final_by (is_renewed owed.lists unit) (is_listed owed.lists unit) (has owed.stops unit) (states unit) to)

      -- the calls of the lists that are left can be made
      can_left : (done left : List Which) → CanFollow states owed.stops done left → CanPerform (flat_map listed left) (performed (flat_map listed done) ready)
      can_left done [] can = tt
      can_left done (which ∷ left) can =
          can-append (listed which) (flat_map listed left) (performed (flat_map listed done) ready)
          (can_act (act_on which states owed.stops) (list_names (with_list owed.lists Starts order) which) (performed (flat_map listed done) ready) up)
          (subst (CanPerform (flat_map listed left)) (ap (λ cs. performed cs ready) joined ∙ performed-append (flat_map listed done) (listed which) ready) (can_left (done ++ which ∷ []) left can.1))
        where
          joined : flat_map listed (done ++ which ∷ []) ≡ flat_map listed done ++ listed which
          joined = flat_map-append listed done (which ∷ []) ∙ ap (λ cs. flat_map listed done ++ cs) (append-nil (listed which))

          up : (unit : Name) → act_on which states owed.stops unit ≡ Reload → state_of (performed (flat_map listed done) ready).states unit ≡ Active
          up unit reload =
              after_lists unit done ∙ ap (λ b. final_of b (found unit done) (was unit) (to unit)) (none_renewed (on unit) done (can.0 unit reload))
              ∙ still_up (found unit done) (was unit) (to unit) (up_before (renews which) (act_on which states owed.stops unit) (act_by which states owed.stops unit) reload)
            where
              up_before : (renewing : Bool) (act : Act) → IsActBy renewing (was unit) act → act ≡ Reload → was unit ≡ Active
              up_before true act restart reload = absurd (let same : Restart ≡ Reload = sym restart ∙ reload in cc same)
              up_before false act (inl start) reload = absurd (let same : Start ≡ Reload = sym start ∙ reload in cc same)
              up_before false act (inr is) reload = is.1

      -- the calls after the stops can be made
      pub can_rest : CanPerform calls ready
      can_rest = can_left [] give_order (can_follow states owed.stops)
