-- At each moment of a switch of the units it is underway, and nothing gets in its way.
use Rattle.std.proofs.Common.{◌≡◌, ◌⊎◌, ◌||◌, ◌++◌, ℕ, true, false, IsTrue, List, Option, None, Some, is_some, map, take, refl, sym, ap, subst, ◌∙◌, Bool, inl, inr}
use Rattle.std.proofs.lemmas.List.{append_assoc, take-map}
use Rattle.std.specs.FinMap.{get}
use Rattle.std.specs.List.{AllByRecursion, flat_map}
use Rattle.host_trait.specs.declared.entry.Act.TheVariants.{Stop}
use Rattle.host_trait.specs.declared.manager_state.ManagerState.{ManagerState}
use Rattle.host_trait.specs.declared.unit_state.State.{State}
use Rattle.host_trait.specs.States.{UnitStates, state_of}
use Rattle.host_trait.specs.World.{WorldState}
use Rattle.log_text.specs.declared.lists.Lists.{Lists}
use Rattle.log_text.specs.declared.lists.Which.{Which}
use Rattle.log_text.specs.declared.lists.Which.TheVariants.{Starts}
use Rattle.log_text.specs.Lists.{AreCounted, AreLists, list_names, with_list}
use Rattle.owed_log.specs.Lengths.{AreOwedShort}
use Rattle.owed_log.specs.Standing.{AreListsAt}
use Rattle.owed_log.proofs.ListLemmas.{one_lists}
use Rattle.owed_plan.specs.Called.{AreCalled, IsDone, IsLeftOf}
use Rattle.owed_plan.specs.Collected.{IsListBy}
use Rattle.owed_plan.specs.declared.duty.Duty.{Duty}
use Rattle.owed_plan.specs.declared.owed.Owed.{Owed}
use Rattle.owed_plan.specs.Calls.{duty, give_order, listed_calls, stop_calls}
use Rattle.owed_plan.specs.FinalStates.{brought_by}
use Rattle.owed_plan.specs.Law.{IsRecorded, stopped}
use Rattle.owed_plan.specs.Lists.{OnList, renews}
use Rattle.owed_plan.specs.Owed.{sockets_first}
use Rattle.owed_plan.specs.Systems.{IsDefined, Systems, systems_at}
use Rattle.owed_plan.proofs.CoreLemmas.{owed_defined}
use Rattle.owed_plan.proofs.KindLemmas.{starts_or_other}
use Rattle.owed_plan.proofs.SystemLemmas.{sound_at}
use Rattle.switch_names.specs.declared.name_fault.NameFault.{NameFault}
use Rattle.switch_names.specs.Names.{Name, has}
use Rattle.switch_names.specs.UnitName.{IsUnitName, unit_fault}
use Rattle.unit_decide.specs.Facts.{unit_kind}
use Rattle.unit_defs.specs.Units.{find_text, own_text}
use Rattle.host_trait.proofs.NameOrder.{all_named}
use Rattle.unit_text.specs.declared.assignment.Assignment.{Assignment}
use Rattle.owed_plan.proofs.TableLemmas.{other_names}
use Rattle.unit_stage.specs.Acts.{entry_of, performed}
use Rattle.unit_stage.specs.Laws.{AreSameBeside, FreeLaw, UnderwayLaw}
use Rattle.unit_stage.specs.Order.{ArrangesStarts}
use Rattle.unit_stage.specs.Owes.{IsSteadyWorld}
use Rattle.unit_stage.specs.Plan.{IsOwedIn}
use Rattle.unit_stage.specs.System.{IsSystem, current_place, current_system, definitions_of, system_leaf}
use Rattle.unit_stage.specs.Units.{AreUnitsFree, AreUnitsUnderway}
use Rattle.unit_stage.specs.Waiting.{waits_besides}
use Rattle.unit_stage.proofs.ActLemmas.{after_stops}
use Rattle.unit_stage.proofs.BegunLemmas.{begun_underway}
use Rattle.unit_stage.proofs.CallLemmas.{entered, same_bad}
use Rattle.unit_stage.proofs.CallingLemmas.{IsCalling, calling_law, is_called}
use Rattle.unit_stage.proofs.ComeLemmas.{HasCome, IsLike, has_come, ready}
use Rattle.unit_stage.proofs.FreeLemmas.{stays_free}
use Rattle.unit_stage.proofs.ListCallLemmas.{set_list}
use Rattle.unit_stage.proofs.RoomLemmas.{log_fits}
use Rattle.unit_stage.proofs.ShortLemmas.{unit_short}
use Rattle.unit_stage.proofs.StandLemmas.{Stand}
use Rattle.unit_stage.proofs.StoppingLemmas.{IsMomentOfStops, stops_underway}
use Rattle.unit_stage.proofs.SystemsLemmas.{systems_after, systems_before}
use Rattle.unit_stage.proofs.TableLemmas.{after_all_stops}
use Rattle.unit_stage.proofs.UnderwayLemmas.{IsMomentAfterLink, after_link_underway}
use Rattle.unit_stage.proofs.WaitingLemmas.{besides_owed, besides_same, joined, joined_list, left_joined, recorded_list}

-- ---- nothing gets in the way

come_free : (system : Name) (owed : Owed) (order : List Name) (w m : WorldState) → IsSystem system → AreSameBeside w m → HasCome system owed order w m → AreUnitsFree system w.leaves → AreUnitsFree system m.leaves
come_free system owed order w m is_system same (HasCome.Begun current leaves forth manager) = stays_free system w m same leaves is_system (inl current)
come_free system owed order w m is_system same (HasCome.Stopping count old kept before recorded stand manager) = stays_free system w m same stand.written is_system (inl stand.current)
come_free system owed order w m is_system same (HasCome.Bringing made rest kept like prefix calling bad journal is stand) = stays_free system w m same stand.written is_system (inr stand.current)

-- ---- the names that are owed are names of units

-- what a system defines has the name of a unit
defined_named : (own : Name → Option (List Assignment)) (unit : Name) → is_some (find_text own unit) ≡ true → IsUnitName unit
defined_named own unit defined = by (unit_fault unit) refl
  where
    by : (o : Option NameFault) → unit_fault unit ≡ o → IsUnitName unit
    by None is = is
    by (Some fault) is = absurd (let none : is_some (find_text own unit) ≡ false = rw is in cc (sym none ∙ defined))

module _ (start_up : Bool) (system : Name) (lists : Lists) (owed : Owed) (w : WorldState) (owes : IsOwedIn start_up system w lists owed) where
  abbrev both : Systems
  both = systems_at w.leaves (current_system w.leaves) system

  named : (unit : Name) → IsDefined both unit → IsUnitName unit
  named unit defined = defined_named (own_text w.leaves system) unit defined

  listed_named : (which : Which) → AllByRecursion IsUnitName (list_names owed.lists which)
  listed_named which = all_named IsUnitName (list_names owed.lists which) (λ unit found.
      named unit (owed_defined both (state_of w.manager.states) lists (sound_at w.leaves (current_system w.leaves) system) which unit (((owes.is_owed (OnList which)).exact unit).0 found)))

  -- what is owed can be written, where it can be counted
  pub are_named : AreCounted owed.lists → AreLists owed.lists
  are_named counted which = record { names = listed_named which; sorted = (owes.is_owed (OnList which)).sorted; counted = counted which }

pub free_law : FreeLaw
free_law start_up system owed order w m is_system (lists, owes) moment same free =
    come_free system owed order w m is_system same (has_come system owed order w m (are_named start_up system lists owed w owes) same moment) free

module _ (start_up : Bool) (system : Name) (lists : Lists) (owed : Owed) (order : List Name) (arranges : ArrangesStarts owed order) (w m : WorldState) (is_system : IsSystem system)
    (owes : IsOwedIn start_up system w lists owed) (same : AreSameBeside w m) where
  abbrev states : Name → State
  states = state_of w.manager.states

  -- what waits besides is owed a start, at each moment
  besides_then : (old : Option Name) → systems_at m.leaves (current_system m.leaves) system ≡ systems_at w.leaves old system → (unit : Name) → waits_besides start_up m.leaves system unit ≡ true → has owed.lists.starts unit ≡ true
  besides_then old systems unit is =
      besides_owed start_up system lists owed w owes unit (sym (besides_same start_up m.leaves w.leaves (current_system m.leaves) old system systems unit) ∙ is)

  -- ---- the stops

  module _ (count : ℕ) (manager : m.manager ≡ performed (take count (stop_calls owed)) w.manager) where
    abbrev taken : List Name
    taken = take count (sockets_first unit_kind owed.stops)

    made : m.manager ≡ performed (map (duty Stop) taken) w.manager
    made = manager ∙ ap (λ calls. performed calls w.manager) (take-map (duty Stop) count (sockets_first unit_kind owed.stops))

    stops_moment : (old kept : Lists) → AreListsAt w.leaves old → IsRecorded owed old kept → Stand w.leaves m.leaves (get w.leaves current_place) kept → IsMomentOfStops start_up system lists owed w m
    stops_moment old kept before recorded stand = record {
      count = count;
      kept = kept;
      listed = record {
        stored = kept;
        standing = stand.listed;
        starts = subst (λ names. IsListBy names (λ unit. waits_besides start_up m.leaves system unit || has names unit)) (sym recorded.starts)
            (recorded_list start_up m.leaves system owed.lists.starts (besides_then (current_system w.leaves) systems) (owes.is_owed (OnList Starts)).sorted);
        others = λ which no_start. refl;
      };
      recorded = record { starts = recorded.starts; others = others };
      stopped = λ unit. ap (λ (x : ManagerState). state_of x.states unit) made ∙ after_stops taken w.manager unit;
      journal = ap (λ (x : ManagerState). x.journal) made ∙ entered (map (duty Stop) taken) w.manager;
      bad = ap (λ (x : ManagerState). x.bad) made ∙ same_bad (map (duty Stop) taken) w.manager;
      systems = systems;
    }
      where
        systems : systems_at m.leaves (current_system m.leaves) system ≡ systems_at w.leaves (current_system w.leaves) system
        systems = systems_before system is_system w m same stand.current

        was : old ≡ owes.listed.stored
        was = one_lists w.leaves old owes.listed.stored before owes.listed.standing

        others : (which : Which) → (list_names kept which ≡ list_names lists which) ⊎ (list_names kept which ≡ list_names owed.lists which)
        others which =
            elim (starts_or_other which) [
              | inl starts ↦ inr (subst (λ one. list_names kept one ≡ list_names owed.lists one) (sym starts) recorded.starts)
              | inr other ↦ elim (recorded.others which) [
                | inl same ↦ inl (same ∙ ap (λ (l : Lists). list_names l which) was ∙ sym (owes.listed.others which other))
                | inr is ↦ inr is
              ]
            ]

  -- ---- the calls after them

  -- the lists that stand, as a switch takes them
  abbrev as_taken : Lists → Lists
  as_taken kept = with_list kept Starts (joined start_up m.leaves system kept.starts)

  -- a unit of a list is done with, and called
  abbrev Done : List Duty → Lists → Which → Name → Type 0
  Done made kept which unit =
      IsDone (renews which) (as_taken kept) owed unit (brought_by (definitions_of system) w.manager.bad unit) (stopped owed.stops states unit) (state_of m.manager.states unit) × IsTrue (is_called made unit)

  -- it is done with as the lists stand, which have the same units on each that brings units up anew
  done_as : (kept : Lists) (renewing : Bool) (unit : Name) →
      IsDone renewing kept owed unit (brought_by (definitions_of system) w.manager.bad unit) (stopped owed.stops states unit) (state_of m.manager.states unit) →
      IsDone renewing (as_taken kept) owed unit (brought_by (definitions_of system) w.manager.bad unit) (stopped owed.stops states unit) (state_of m.manager.states unit)
  done_as kept true unit is = is
  done_as kept false unit is = is

  left_done : (calls : List Duty) (kept : Lists) (which : Which) →
      IsLeftOf (list_names owed.lists which) (list_names kept which)
      (λ unit. IsDone (renews which) kept owed unit (brought_by (definitions_of system) w.manager.bad unit) (stopped owed.stops states unit) (state_of m.manager.states unit) × IsTrue (is_called calls unit)) →
      IsLeftOf (list_names owed.lists which) (list_names kept which) (Done calls kept which)
  left_done calls kept which (IsLeftOf.Stands same) = IsLeftOf.Stands same
  left_done calls kept which (IsLeftOf.Removed within done) =
      IsLeftOf.Removed within (λ unit found. let is = done unit found in (done_as kept (renews which) unit is.0, is.1))

  after_moment : (made rest : List Duty) (kept : Lists) (like : ManagerState) → flat_map (listed_calls owed order states) give_order ≡ made ++ rest →
      IsCalling owed order states (ready system owed w) made like kept →
      like.bad ≡ (performed made (ready system owed w)).bad → like.journal ≡ (performed made (ready system owed w)).journal → IsLike like m.manager →
      Stand w.leaves m.leaves (Some (system_leaf system)) kept → IsMomentAfterLink start_up system owed order w m
  after_moment made rest kept like prefix calling bad journal is stand =
      let then_ready = ready system owed w in
      record {
        made = made;
        rest = rest;
        prefix = prefix;
        journal = is.journal ∙ journal ∙ entered made then_ready ∙ ap (λ entries. entries ++ map (entry_of (definitions_of system)) made) (entered (stop_calls owed) w.manager)
            ∙ append_assoc w.manager.journal (map (entry_of w.manager.loaded) (stop_calls owed)) (map (entry_of (definitions_of system)) made);
        kept = as_taken kept;
        listed = record {
          stored = kept;
          standing = stand.listed;
          starts = joined_list start_up m.leaves system kept.starts;
          others = other_names kept (joined start_up m.leaves system kept.starts);
        };
        called = record {
          units = called.units;
          kept_lists = left_lists;
        };
        bad = is.bad ∙ bad ∙ same_bad made then_ready ∙ same_bad (stop_calls owed) w.manager;
        systems = systems;
      }
    where
      systems : systems_at m.leaves (current_system m.leaves) system ≡ systems_at w.leaves (Some system) system
      systems = systems_after system is_system w m same stand.current

      called : AreCalled owed (brought_by (definitions_of system) w.manager.bad) (stopped owed.stops states) (state_of m.manager.states) kept (is_called made)
      called =
          let then_ready = ready system owed w in
          subst (λ (x : UnitStates). AreCalled owed (brought_by (definitions_of system) w.manager.bad) (stopped owed.stops states) (state_of x) kept (is_called made)) (sym is.states)
          (subst (λ bad. AreCalled owed (brought_by (definitions_of system) bad) (stopped owed.stops states) (state_of like.states) kept (is_called made)) (same_bad (stop_calls owed) w.manager)
          (calling_law owed order arranges states then_ready like made kept (λ unit. after_all_stops owed w.manager unit) calling))

      -- what waits besides is among what was recorded
      left_lists : (which : Which) → IsLeftOf (list_names owed.lists which) (list_names (as_taken kept) which) (Done made kept which)
      left_lists which =
          elim (set_list kept Starts (joined start_up m.leaves system kept.starts) which) [
            | inl same ↦ subst (λ names. IsLeftOf (list_names owed.lists which) names (Done made kept which)) (sym same) (left_done made kept which (called.kept_lists which))
            | inr set ↦
                subst (λ one. IsLeftOf (list_names owed.lists one) (list_names (as_taken kept) one) (Done made kept one)) set.1
                (left_joined start_up m.leaves system owed.lists.starts (besides_then (Some system) systems) kept.starts (Done made kept Starts) (owes.is_owed (OnList Starts)).sorted (left_done made kept Starts (called.kept_lists Starts)))
          ]

  module _ (steady : IsSteadyWorld start_up system w) (free : AreUnitsFree system m.leaves) (short : AreOwedShort w.leaves → AreOwedShort m.leaves) where
    underway : HasCome system owed order w m → AreUnitsUnderway start_up system w m
    underway (HasCome.Begun current leaves forth manager) = begun_underway start_up system is_system w m same current forth manager free short steady
    underway (HasCome.Stopping count old kept before recorded stand manager) =
        stops_underway start_up system lists owed w m owes steady (stops_moment count manager old kept before recorded stand) free short
    underway (HasCome.Bringing made rest kept like prefix calling bad journal is stand) =
        after_link_underway start_up system lists owed order arranges w m owes steady (after_moment made rest kept like prefix calling bad journal is stand) free short

pub underway_law : UnderwayLaw
underway_law start_up system owed order w m is_system (lists, owes) arranges free steady moment same =
    underway start_up system lists owed order arranges w m is_system owes same steady (free_law start_up system owed order w m is_system (lists, owes) moment same free)
    (unit_short system owed order w m (log_fits start_up system lists owed w owes steady) same moment) (has_come system owed order w m (are_named start_up system lists owed w owes) same moment)
