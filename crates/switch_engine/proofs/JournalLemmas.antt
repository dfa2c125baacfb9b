-- At each moment of a command the journal has grown by a beginning of what it enters.
use Rattle.std.proofs.Common.{◌≡◌, Bool, true, false, List, [], ◌++◌, map, take, drop, append-nil, append_assoc, ◌∷◌, refl, sym, ap, subst, ◌∙◌, inl, inr}
use Rattle.std.proofs.lemmas.List.{map-append, take-append-drop}
use Rattle.std.specs.List.{flat_map}
use Rattle.activation_stage.specs.ActivationPart.{IsActivating}
use Rattle.activation_stage.specs.ActivationPart.IsActivating.{Making, Setting}
use Rattle.accounts_stage.specs.AccountsPart.{puts_of}
use Rattle.host_trait.specs.declared.entry.Entry.{Entry}
use Rattle.host_trait.specs.declared.manager_state.ManagerState.{ManagerState}
use Rattle.host_trait.specs.Manager.{loading}
use Rattle.host_trait.specs.States.{state_of}
use Rattle.host_trait.specs.World.{WorldState}
use Rattle.log_text.specs.declared.lists.Which.{Which}
use Rattle.log_text.specs.declared.lists.Which.TheVariants.{Starts}
use Rattle.owed_log.specs.declared.log_write.LogWrite.{LogWrite}
use Rattle.owed_log.specs.Writing.{recorded}
use Rattle.owed_log.proofs.BesideLemmas.{clearing_manager, record_manager, recorded_manager}
use Rattle.owed_plan.specs.Calls.{give_order, listed_calls, stop_calls}
use Rattle.owed_plan.specs.declared.duty.Duty.{Duty}
use Rattle.owed_plan.specs.declared.owed.Owed.{Owed}
use Rattle.switch_engine.specs.declared.command.Command.{Command}
use Rattle.switch_engine.specs.Commands.{brought_to, if_so, row}
use Rattle.switch_engine.specs.Final.{AreEntries, HasBegunToEnter}
use Rattle.switch_engine.specs.Moments.{HasStopped, IsSwitchMoment}
use Rattle.switch_engine.proofs.SwitchedIf.{IsSwitchMomentIf}
use Rattle.switch_names.specs.Names.{Name}
use Rattle.tree_put.specs.Sequence.{with_puts}
use Rattle.tree_put.proofs.SequenceLemmas.{puts_manager}
use Rattle.unit_stage.specs.Acts.{IsPerforming, entry_of, performed, with_calls}
use Rattle.unit_stage.specs.Acts.IsPerforming.{After, Within}
use Rattle.unit_stage.specs.End.{entries_of}
use Rattle.unit_stage.specs.Order.{IsOrderedAt}
use Rattle.unit_stage.specs.Plan.{IsOwedBy}
use Rattle.unit_stage.specs.Steps.{IsBringStep, IsClearingMoment, IsGiveMoment, IsListMoment, IsStopStep, with_given, with_loaded, with_stops}
use Rattle.unit_stage.specs.Steps.IsBringStep.{Giving, Linked, Waiting}
use Rattle.unit_stage.specs.System.{definitions_of}
use Rattle.unit_stage.proofs.CallLemmas.{entered, performed-append}
use Rattle.unit_stage.proofs.StandLemmas.{given_manager}
use Rattle.unit_stage.proofs.StepLemmas.{manager_seen}

-- ---- calls

-- the journal is the one after the first of these calls
record HasMade (calls : List Duty) (before after : ManagerState) : Type 0 where
  made : List Duty
  rest : List Duty
  in_order : calls ≡ made ++ rest
  journal : after.journal ≡ (performed made before).journal

made_none : (calls : List Duty) (before after : ManagerState) → after.journal ≡ before.journal → HasMade calls before after
made_none calls before after is = record { made = []; rest = calls; in_order = refl; journal = is }

made_all : (calls : List Duty) (before after : ManagerState) → after ≡ performed calls before → HasMade calls before after
made_all calls before after is = record { made = calls; rest = []; in_order = sym (append-nil calls); journal = ap (λ (k : ManagerState). k.journal) is }

made_some : (calls : List Duty) (w m : WorldState) → IsPerforming calls w m → HasMade calls w.manager m.manager
made_some calls w m (After count is) = record {
  made = take count calls;
  rest = drop count calls;
  in_order = sym (take-append-drop count calls);
  journal = ap (λ (x : WorldState). x.manager.journal) is;
}
made_some calls w m (Within count unit there is) = record {
  made = take count calls;
  rest = drop count calls;
  in_order = sym (take-append-drop count calls);
  journal = ap (λ (x : WorldState). x.manager.journal) is;
}

made_more : (calls more : List Duty) (before after : ManagerState) → HasMade calls before after → HasMade (calls ++ more) before after
made_more calls more before after some = record {
  made = some.made;
  rest = some.rest ++ more;
  in_order = ap (λ (cs : List Duty). cs ++ more) some.in_order ∙ append_assoc some.made some.rest more;
  journal = some.journal;
}

made_then : (calls more : List Duty) (before after : ManagerState) → HasMade more (performed calls before) after → HasMade (calls ++ more) before after
made_then calls more before after some = record {
  made = calls ++ some.made;
  rest = some.rest;
  in_order = ap (λ (cs : List Duty). calls ++ cs) some.in_order ∙ sym (append_assoc calls some.made some.rest);
  journal = some.journal ∙ ap (λ (k : ManagerState). k.journal) (sym (performed-append calls some.made before));
}

made_clearing : (which : Which) (calls : List Duty) (w m : WorldState) → IsClearingMoment which calls w m → HasMade calls w.manager m.manager
made_clearing which calls w m (inl part) = made_some calls w m part
made_clearing which calls w m (inr moment) = made_all calls w.manager m.manager (clearing_manager which (with_calls calls w) m moment)

made_listed : (which : Which) (calls : List Duty) (w m : WorldState) → IsListMoment which calls w m → HasMade calls w.manager m.manager
made_listed Starts calls w m moment = made_clearing Starts calls w m moment
made_listed which [] w m is = made_none [] w.manager m.manager (ap (λ (x : WorldState). x.manager.journal) is)
made_listed which (call ∷ calls) w m moment = made_clearing which (call ∷ calls) w m moment

made_giving : (calls : Which → List Duty) (order : List Which) (w m : WorldState) → IsGiveMoment calls order w m → HasMade (flat_map calls order) w.manager m.manager
made_giving calls [] w m is = made_none [] w.manager m.manager (ap (λ (x : WorldState). x.manager.journal) is)
made_giving calls (which ∷ order) w m (inl moment) = made_more (calls which) (flat_map calls order) w.manager m.manager (made_listed which (calls which) w m moment)
made_giving calls (which ∷ order) w m (inr later) =
    made_then (calls which) (flat_map calls order) w.manager m.manager
    (subst (λ (k : ManagerState). HasMade (flat_map calls order) k m.manager) (given_manager which (calls which) w) (made_giving calls order (with_given which (calls which) w) m later))

-- ---- what changes leaves alone

activating_manager : (system : Name) (w m : WorldState) → IsActivating system w m → m.manager ≡ w.manager
activating_manager system w m (Setting step) =
    manager_seen m (with_puts (take step.count (puts_of system w.leaves)) w) step.world ∙ puts_manager (take step.count (puts_of system w.leaves)) w
activating_manager system w m (Making u set moment step) =
    moment.only.manager refl ∙ manager_seen u (with_puts (puts_of system w.leaves) w) set ∙ puts_manager (puts_of system w.leaves) w

-- ---- a switch of the units

-- the journal has grown by the first of these entries
record HasGrown (entries : List Entry) (before after : ManagerState) : Type 0 where
  made : List Entry
  rest : List Entry
  in_order : entries ≡ made ++ rest
  journal : after.journal ≡ before.journal ++ made

module _ (system : Name) (owed : Owed) (order : List Name) (w : WorldState) where
  abbrev stops : List Duty
  stops = stop_calls owed

  abbrev gives : List Duty
  gives = flat_map (listed_calls owed order (state_of w.manager.states)) give_order

  abbrev stop_entries : List Entry
  stop_entries = map (entry_of w.manager.loaded) stops

  abbrev give_entries : List Entry
  give_entries = map (entry_of (definitions_of system)) gives

  grown_stops : (after : ManagerState) → HasMade stops w.manager after → HasGrown (entries_of system owed order w) w.manager after
  grown_stops after some = record {
    made = map (entry_of w.manager.loaded) some.made;
    rest = map (entry_of w.manager.loaded) some.rest ++ give_entries;
    in_order = ap (λ (es : List Entry). es ++ give_entries) (ap (map (entry_of w.manager.loaded)) some.in_order ∙ map-append (entry_of w.manager.loaded) some.made some.rest)
        ∙ append_assoc (map (entry_of w.manager.loaded) some.made) (map (entry_of w.manager.loaded) some.rest) give_entries;
    journal = some.journal ∙ entered some.made w.manager;
  }

  abbrev stopped : ManagerState
  stopped = performed stops w.manager

  grown_gives : (after : ManagerState) → HasMade gives (loading (definitions_of system) stopped) after → HasGrown (entries_of system owed order w) w.manager after
  grown_gives after some = record {
    made = stop_entries ++ map (entry_of (definitions_of system)) some.made;
    rest = map (entry_of (definitions_of system)) some.rest;
    in_order = ap (λ (es : List Entry). stop_entries ++ es) (ap (map (entry_of (definitions_of system))) some.in_order ∙ map-append (entry_of (definitions_of system)) some.made some.rest)
        ∙ sym (append_assoc stop_entries (map (entry_of (definitions_of system)) some.made) (map (entry_of (definitions_of system)) some.rest));
    journal = some.journal ∙ entered some.made (loading (definitions_of system) stopped)
        ∙ ap (λ (es : List Entry). es ++ map (entry_of (definitions_of system)) some.made) (entered stops w.manager)
        ∙ append_assoc w.manager.journal stop_entries (map (entry_of (definitions_of system)) some.made);
  }

  stopped_manager : (u : WorldState) → HasStopped owed w u → u.manager ≡ stopped
  stopped_manager u is = manager_seen u (with_stops is.0 stops w) is.2 ∙ ap (performed stops) (recorded_manager is.0 w)

  grown_stopped : (m : WorldState) → m.manager ≡ stopped → HasGrown (entries_of system owed order w) w.manager m.manager
  grown_stopped m is = grown_stops m.manager (made_all stops w.manager m.manager is)

  stopping : (write : LogWrite) (u : WorldState) → IsStopStep write stops w u → HasMade stops w.manager u.manager
  stopping write u (IsStopStep.Recording step) = made_none stops w.manager u.manager (ap (λ (k : ManagerState). k.journal) (record_manager write w u step))
  stopping write u (IsStopStep.Stopping step) = subst (λ (k : ManagerState). HasMade stops k u.manager) (recorded_manager write w) (made_some stops (recorded write w) u step)

  bringing : (v u : WorldState) → v.manager ≡ stopped → IsBringStep system (listed_calls owed order (state_of w.manager.states)) v u →
      HasGrown (entries_of system owed order w) w.manager u.manager
  bringing v u before (Waiting is) = grown_stopped u (ap (λ (x : WorldState). x.manager) is ∙ before)
  bringing v u before (Linked is) = grown_stopped u (ap (λ (x : WorldState). x.manager) is ∙ before)
  bringing v u before (Giving step) =
      grown_gives u.manager
      (subst (λ (k : ManagerState). HasMade gives (loading (definitions_of system) k) u.manager) before
      (made_giving (listed_calls owed order (state_of w.manager.states)) give_order (with_loaded system v) u step))

  grown : (m : WorldState) → IsSwitchMoment system owed order w m → HasGrown (entries_of system owed order w) w.manager m.manager
  grown m (IsSwitchMoment.Stopping write is_write moment) =
      subst (λ (k : ManagerState). HasGrown (entries_of system owed order w) w.manager k) (sym (manager_seen m moment.0 moment.2)) (grown_stops moment.0.manager (stopping write moment.0 moment.1))
  grown m (IsSwitchMoment.Activating u is step) = grown_stopped m (activating_manager system u m step ∙ stopped_manager u is)
  grown m (IsSwitchMoment.Bringing u v is activated moment) =
      subst (λ (k : ManagerState). HasGrown (entries_of system owed order w) w.manager k) (sym (manager_seen m moment.0 moment.2))
      (bringing v moment.0 (activating_manager system u v activated.moment ∙ stopped_manager u is) moment.1)

-- ---- a command

-- a switch of the units, where they are switched, that began where the manager is that of a first world
pub switch_enters :
    (command : Command) (start_up switches : Bool) (system : Name) (owed : Owed) (order : List Name) (w u m : WorldState) → start_up ≡ (row command w.leaves).start_up → if_so switches system ≡ brought_to command w.leaves → (switches ≡ true → IsOwedBy start_up system w owed) →
    (switches ≡ true → IsOrderedAt w.leaves system owed order) → u.manager ≡ w.manager → IsSwitchMomentIf switches system owed order u m → HasBegunToEnter command w m
switch_enters command start_up true system owed order w u m starts brought is_owed is_ordered same moment =
    let some = subst (λ (k : ManagerState). HasGrown (entries_of system owed order (record u { manager = k })) k m.manager) same (grown system owed order u m moment) in
    record {
      entries = entries_of system owed order w;
      are_entered = subst (λ b. AreEntries b (brought_to command w.leaves) w (entries_of system owed order w)) starts
          (subst (λ to. AreEntries start_up to w (entries_of system owed order w)) brought (owed, order, is_owed refl, is_ordered refl, refl));
      made = some.made;
      rest = some.rest;
      in_order = some.in_order;
      journal = some.journal;
    }
switch_enters command start_up false system owed order w u m starts brought is_owed is_ordered same moment = record {
  entries = [];
  are_entered = subst (λ to. AreEntries (row command w.leaves).start_up to w []) brought refl;
  made = [];
  rest = [];
  in_order = refl;
  journal = ap (λ (x : WorldState). x.manager.journal) moment ∙ ap (λ (k : ManagerState). k.journal) same ∙ sym (append-nil w.manager.journal);
}
