-- The units that a switch leaves failed, in byte order, and the closing text of a command.
use Rattle.std.proofs.Common.{◌≡◌, ◌&&◌, ◌||◌, T, ℕ, Bool, true, false, cond, List, [], ◌∷◌, Option, None, Some, is_some, filter, map, unwrap_or, refl, sym, ap, subst, ◌∙◌}
use Rattle.std.specs.Cmp.Lexicographic.{slice_cmp}
use Rattle.std.specs.FinMap.{entries, entries_sorted, find, get-entries}
use Rattle.std.specs.FinMap.Entries.{below_all, is_sorted}
use Rattle.std.specs.List.{AllByRecursion}
use Rattle.std.specs.List.Sorted.{IsStrictlySortedBy}
use Rattle.std.specs.Ordering.{is_lt, nat_cmp}
use Rattle.std.specs.declared.cmp.Ordering.TheVariants.{Less}
use Rattle.std.proofs.lemmas.Bool.{and_from, and_parts, both_ways}
use Rattle.unit_text.specs.declared.assignment.Assignment.{Assignment}
use Rattle.std.proofs.Math.Bool.{and-false}
use Rattle.host_trait.proofs.KeyOrder.{left_of, less_from, right_of}
use Rattle.host_trait.specs.World.{WorldState, bytes_cmp}
use Rattle.host_trait.specs.States.{UnitStates, listed_states, state_of}
use Rattle.host_trait.specs.declared.unit_state.State.{State}
use Rattle.host_trait.specs.declared.unit_state.State.TheVariants.{Inactive}
use Rattle.host_trait.specs.declared.unit_state.UnitState.{UnitState}
use Rattle.owed_plan.specs.declared.owed.Owed.{Owed}
use Rattle.owed_lists.proofs.ListLemmas.{one_list}
use Rattle.owed_plan.proofs.SystemLemmas.{none_kept}
use Rattle.switch_engine.specs.declared.command.Command.{Command}
use Rattle.switch_engine.specs.declared.plan.Plan.{Plan}
use Rattle.switch_engine.specs.declared.plan.SwitchPlan.{SwitchPlan}
use Rattle.switch_engine.specs.declared.row.Row.{Row}
use Rattle.switch_engine.specs.Commands.{IsBoot, IsQuery, if_so, row, switched_to}
use Rattle.switch_engine.specs.Final.{AreFinalUnits, IsFinalOf, IsLeftFailed, is_failed, is_failed_of}
use Rattle.switch_engine.specs.Plan.{ArePlanned, IsPlanOf, IsSwitchPlanned, units_in, units_of}
use Rattle.switch_engine.proofs.FlagLemmas.{changes_on}
use Rattle.switch_engine.proofs.DefinedLemmas.{defined_same}
use Rattle.switch_engine.proofs.FailedLemmas.{failed_from}
use Rattle.switch_names.specs.Names.{IsListOf, Name, has, is_name}
use Rattle.unit_defs.specs.declared.unit.Unit.{Unit}
use Rattle.unit_defs.specs.Defs.{AreDefsOf, found_in}
use Rattle.host_trait.proofs.NameOrder.{name_exact, above_lack}
use Rattle.unit_stage.specs.declared.unit_plan.UnitPlan.{UnitPlan}
use Rattle.unit_stage.specs.End.{AreEndStates, state_after}
use Rattle.unit_stage.specs.Plan.{IsOwedBy, no_units}
use Rattle.unit_stage.proofs.EndLemmas.{one_end}
use Rattle.dry_report.specs.Close.{IsClosing, IsClosingBy, IsClosingTo, IsUnitClosing, close_of, failed_in}
use Rattle.dry_report.proofs.CloseLemmas.{failed_units}

-- ---- a command has one closing text

same_failed : (start_up : Bool) (w : WorldState) (system : Name) (one other : Owed) → IsOwedBy start_up system w one → IsOwedBy start_up system w other → (unit : Name) → IsLeftFailed system other w unit → IsLeftFailed system one w unit
same_failed start_up w system one other is also unit left = record { failed = one_end start_up system also.0 other w also.1 one is unit ∙ left.failed; defined = left.defined }

one_unit_closing : (start_up : Bool) (system : Name) (w : WorldState) (one other : List ℕ) → IsUnitClosing start_up system w one → IsUnitClosing start_up system w other → one ≡ other
one_unit_closing start_up system w one other is also =
    is.is_text
    ∙ ap close_of (one_list is.failed also.failed (IsLeftFailed system is.owed w) is.are_failed
    (record {
      sorted = also.are_failed.sorted;
      exact = λ unit. (
        λ found. same_failed start_up w system is.owed also.owed is.is_owed also.is_owed unit ((also.are_failed.exact unit).0 found),
        λ left. (also.are_failed.exact unit).1 (same_failed start_up w system also.owed is.owed also.is_owed is.is_owed unit left),
      );
    }))
    ∙ sym also.is_text

one_by : (start_up changes : Bool) (to : Option Name) (w : WorldState) (one other : List ℕ) → IsClosingBy start_up changes to w one → IsClosingBy start_up changes to w other → one ≡ other
one_by start_up true (Some system) w one other is also = one_unit_closing start_up system w one other is also
one_by start_up true None w one other is also = is ∙ sym also
one_by start_up false to w one other is also = is ∙ sym also

pub one_closing : (command : Command) (w : WorldState) (one other : List ℕ) → IsClosing command w one → IsClosing command w other → one ≡ other
one_closing command w one other is also = one_by (row command w.leaves).start_up (row command w.leaves).changes (switched_to command w.leaves) w one other is also

-- ---- the units that have failed, among the states of all

abbrev one_of : Name × State → UnitState
one_of e = record { unit = e.0; state = e.1 }

module _ (units : List Unit) where
  abbrev failed_among : List (Name × State) → List Name
  failed_among es = failed_units units (map one_of es)

  -- those with one more unit, where that has failed
  abbrev among : Bool → Name × State → List (Name × State) → List Name
  among failed e es = map (λ one. one.unit) (cond failed (one_of e ∷ filter (is_failed_of units) (map one_of es)) (filter (is_failed_of units) (map one_of es)))

  abbrev AreBelow : Name → List Name → Type 0
  AreBelow unit names = AllByRecursion (λ other. bytes_cmp unit other ≡ Less) names

  below_more : (unit : Name) (e : Name × State) (es : List (Name × State)) → bytes_cmp unit e.0 ≡ Less → AreBelow unit (failed_among es) → (failed : Bool) → AreBelow unit (among failed e es)
  below_more unit e es less rest true = (less, rest)
  below_more unit e es less rest false = rest

  below : (unit : Name) (es : List (Name × State)) → T (below_all bytes_cmp unit es) → AreBelow unit (failed_among es)
  below unit [] is = tt
  below unit (e ∷ es) is =
      below_more unit e es (less_from (bytes_cmp unit e.0) (left_of (is_lt (bytes_cmp unit e.0)) _ is)) (below unit es (right_of (is_lt (bytes_cmp unit e.0)) _ is)) (is_failed_of units (one_of e))

  order_more : (e : Name × State) (es : List (Name × State)) → AreBelow e.0 (failed_among es) → IsStrictlySortedBy (slice_cmp nat_cmp) (failed_among es) → (failed : Bool) →
      IsStrictlySortedBy (slice_cmp nat_cmp) (among failed e es)
  unfolding IsStrictlySortedBy
  order_more e es above rest true = (above, rest)
  order_more e es above rest false = rest

  in_order : (es : List (Name × State)) → T (is_sorted bytes_cmp es) → IsStrictlySortedBy (slice_cmp nat_cmp) (failed_among es)
  unfolding IsStrictlySortedBy
  in_order [] is = tt
  in_order (e ∷ es) is =
      order_more e es (below e.0 es (left_of (below_all bytes_cmp e.0 es) _ is)) (in_order es (right_of (below_all bytes_cmp e.0 es) _ is)) (is_failed_of units (one_of e))

  module _ (e : Name × State) (es : List (Name × State)) (unit : Name) where
    here : (failed : Bool) → AreBelow unit (failed_among es) → is_name unit e.0 ≡ true → has (among failed e es) unit ≡ failed
    here true above name = ap (λ (b : Bool). b || has (failed_among es) unit) name
    here false above name = above_lack unit (failed_among es) above

    elsewhere : (failed : Bool) → is_name unit e.0 ≡ false → has (among failed e es) unit ≡ has (failed_among es) unit
    elsewhere true name = ap (λ (b : Bool). b || has (failed_among es) unit) name
    elsewhere false name = refl

    -- what is to be tested, by whether the unit is the first one
    abbrev test : Bool → Bool
    test first = is_failed (unwrap_or (cond first (Some e.1) (find bytes_cmp unit es)) Inactive) && is_some (found_in units unit)

    has_more : AreBelow e.0 (failed_among es) → has (failed_among es) unit ≡ test false → (first : Bool) → is_name unit e.0 ≡ first → has (failed_among (e ∷ es)) unit ≡ test first
    has_more above rest true name =
        let same = name_exact unit e.0 name in
        here (is_failed_of units (one_of e)) (subst (λ (n : Name). AreBelow n (failed_among es)) (sym same) above) name
        ∙ ap (λ (n : Name). is_failed e.1 && is_some (found_in units n)) (sym same)
    has_more above rest false name = elsewhere (is_failed_of units (one_of e)) name ∙ rest

  -- a unit is among them where its state is that of one that has failed, and it is found
  has_failed : (es : List (Name × State)) → T (is_sorted bytes_cmp es) → (unit : Name) →
      has (failed_among es) unit ≡ (is_failed (unwrap_or (find bytes_cmp unit es) Inactive) && is_some (found_in units unit))
  has_failed [] is unit = refl
  has_failed (e ∷ es) is unit =
      has_more e es unit (below e.0 es (left_of (below_all bytes_cmp e.0 es) _ is)) (has_failed es (right_of (below_all bytes_cmp e.0 es) _ is) unit) (is_name unit e.0) refl

  failed_is : (states : UnitStates) (unit : Name) → has (failed_in units states) unit ≡ (is_failed (state_of states unit) && is_some (found_in units unit))
  failed_is states unit =
      has_failed (entries states) (entries_sorted states) unit
      ∙ ap (λ (o : Option State). is_failed (unwrap_or o Inactive) && is_some (found_in units unit)) (sym (get-entries states unit))

-- ---- by the units and the states after a command

left_failed : (system : Name) (w : WorldState) (owed : Owed) (defs : List Unit) (states : UnitStates) → AreDefsOf w.leaves system defs → ((unit : Name) → state_of states unit ≡ state_after system owed w unit) →
    IsListOf (failed_in defs states) (IsLeftFailed system owed w)
left_failed system w owed defs states are final = record {
  sorted = in_order defs (entries states) (entries_sorted states);
  exact = λ unit. (
    λ found.
        let both = and_parts (is_failed (state_of states unit)) (is_some (found_in defs unit)) (sym (failed_is defs states unit) ∙ found) in
        record {
          failed = sym (final unit) ∙ failed_from (state_of states unit) both.0;
          defined = sym (defined_same w.leaves system defs are unit) ∙ both.1;
        },
    λ left.
        failed_is defs states unit
        ∙ and_from (is_failed (state_of states unit)) (is_some (found_in defs unit))
        (ap is_failed (final unit ∙ left.failed))
        (defined_same w.leaves system defs are unit ∙ left.defined),
  );
}

units_close : (start_up : Bool) (system : Name) (w : WorldState) (defs : List Unit) (states now : UnitStates) → AreDefsOf w.leaves system defs → AreEndStates start_up system w (state_of now) → states ≡ now → IsUnitClosing start_up system w (close_of (failed_in defs states))
units_close start_up system w defs states now are end same = record {
  owed = end.0;
  is_owed = end.1;
  failed = failed_in defs states;
  are_failed = left_failed system w end.0 defs states are (λ unit. ap (λ (s : UnitStates). state_of s unit) same ∙ end.2 unit);
  is_text = refl;
}

-- no unit has failed that a system without units defines
none_failed_of : (one : UnitState) → is_failed_of [] one ≡ false
none_failed_of one = ap (λ (o : Option (List Assignment)). is_failed one.state && is_some o) (none_kept one.unit) ∙ and-false (is_failed one.state)

none_defined : (list : List UnitState) → failed_units [] list ≡ []
none_defined [] = refl
none_defined (one ∷ list) =
    ap (λ b. map (λ (o : UnitState). o.unit) (cond b (one ∷ filter (is_failed_of []) list) (filter (is_failed_of []) list))) (none_failed_of one) ∙ none_defined list

states_close_by : (start_up switches : Bool) (system : Name) (plan : Option SwitchPlan) (nothing : UnitPlan) (states : UnitStates) (w v : WorldState) → IsSwitchPlanned start_up switches system w plan → nothing ≡ no_units → AreFinalUnits start_up (if_so switches system) w v →
    ((switches ≡ false → ⊥) → states ≡ v.manager.states) → IsClosingTo start_up (if_so switches system) w (close_of (failed_in (units_in plan nothing).defs states))
states_close_by start_up switches system None nothing states w v off none final now =
    subst (λ b. IsClosingTo start_up (if_so b system) w (close_of (failed_in nothing.defs states))) (sym off)
    (ap (λ (units : UnitPlan). close_of (failed_in units.defs states)) none ∙ ap close_of (none_defined (listed_states states)))
states_close_by start_up switches system (Some plan) nothing states w v planned none final now =
    let ends : AreFinalUnits start_up (Some system) w v = subst (λ b. AreFinalUnits start_up (if_so b system) w v) planned.0 final in
    subst (λ b. IsClosingTo start_up (if_so b system) w (close_of (failed_in plan.units.defs states))) (sym planned.0)
    (units_close start_up system w plan.units.defs states v.manager.states planned.1.defs ends.0 (now (λ off. both_ways _ off planned.0)))

pub states_close : (plan : Plan) (states : UnitStates) (w v : WorldState) → IsPlanOf w plan → (IsQuery plan.command → ⊥) → IsFinalOf plan.command w v →
    ((IsBoot plan.command → ⊥) → states ≡ v.manager.states) → IsClosing plan.command w (close_of (failed_in (units_of plan).defs states))
states_close plan states w v planned changes final now =
    let on = changes_on plan.command w.leaves changes in
    let its = row plan.command w.leaves in
    let parts = subst (λ (r : Row). ArePlanned r w plan) planned.resolved planned.planned in
    subst (λ b. IsClosingBy its.start_up b (switched_to plan.command w.leaves) w (close_of (failed_in (units_of plan).defs states))) (sym on)
    (states_close_by its.start_up its.switches its.system plan.switch plan.nothing states w v parts.switch parts.nothing (subst (λ b. AreFinalUnits its.start_up (if_so (b && its.switches) its.system) w v) on final.units)
    (λ switched. now (λ boot. switched (boot w.leaves))))
