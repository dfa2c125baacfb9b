-- The calls of a plan, cut into the stops and those of each list.
use Rattle.std.proofs.Common.{◌≡◌, ℕ, List, [], ◌∷◌, ◌++◌, take, drop, length, not, filter, refl, sym, ◌∙◌}
use Rattle.std.proofs.lemmas.List.{length-append, length-map}
use Rattle.std.proofs.lemmas.List.Filters.{length-filter_both}
use Rattle.std.proofs.Math.Seq.{drop-append_seam, take-append_seam}
use Rattle.std.specs.List.{AllByRecursion, flat_map}
use Rattle.host_trait.specs.declared.entry.Act.TheVariants.{Stop}
use Rattle.host_trait.specs.declared.unit_state.State.{State}
use Rattle.log_text.specs.declared.lists.Which.{Which}
use Rattle.log_text.specs.declared.lists.Which.TheVariants.{Starts}
use Rattle.log_text.specs.Lists.{list_names, with_list}
use Rattle.owed_plan.specs.declared.duty.Duty.{Duty}
use Rattle.owed_plan.specs.declared.owed.Owed.{Owed}
use Rattle.owed_plan.specs.Calls.{act_on, calls_of, duty, give_order, listed_calls, stop_calls}
use Rattle.owed_plan.specs.Owed.{sockets_first}
use Rattle.switch_names.specs.declared.unit_kind.UnitKind.TheVariants.{Socket}
use Rattle.switch_names.specs.Names.{Name}
use Rattle.unit_stage.specs.declared.plan_calls.PlanCalls.{PlanCalls}
use Rattle.unit_stage.specs.PlanCalls.{AreCallsOf, calls_in}
use Rattle.unit_stage.proofs.ListCallLemmas.{each_given}
use Rattle.unit_decide.specs.Facts.{unit_kind}
use Rattle.unit_decide.specs.Kinds.{is_kind}

-- the front of a list, and what comes after it
front : (n : ℕ) (xs ys all part : List Duty) → length xs ≡ n → all ≡ xs ++ ys → part ≡ take n all → part ≡ xs
front n xs ys all part size is cut = cut ∙ (λ i. take (sym size i) (is i)) ∙ take-append_seam xs ys

after : (n : ℕ) (xs ys all part : List Duty) → length xs ≡ n → all ≡ xs ++ ys → part ≡ drop n all → part ≡ ys
after n xs ys all part size is cut = cut ∙ (λ i. drop (sym size i) (is i)) ∙ drop-append_seam xs ys

stops_length : (owed : Owed) → length (stop_calls owed) ≡ length owed.stops
stops_length owed =
    length-map (sockets_first unit_kind owed.stops) (duty Stop)
    ∙ length-append (filter (λ unit. is_kind (unit_kind unit) Socket) owed.stops) (filter (λ unit. not (is_kind (unit_kind unit) Socket)) owed.stops)
    ∙ length-filter_both (λ unit. is_kind (unit_kind unit) Socket) (λ unit. not (is_kind (unit_kind unit) Socket)) (λ unit. refl) owed.stops

module _ (owed : Owed) (order : List Name) (states : Name → State) where
  abbrev listed : Which → List Duty
  listed = listed_calls owed order states

  -- how many calls a list has
  abbrev pub call_count : Which → ℕ
  call_count which = length (list_names (with_list owed.lists Starts order) which)

  -- the calls are cut after as many as each list has, one list after the other
  abbrev pub AreCut : (Which → List Duty) → List Which → List Duty → Type 0
  AreCut calls [] rest = Unit {0}
  AreCut calls (which ∷ left) rest = (calls which ≡ take (call_count which) rest) × AreCut calls left (drop (call_count which) rest)

  list_length : (which : Which) → length (listed which) ≡ call_count which
  list_length which = length-map (list_names (with_list owed.lists Starts order) which) (λ unit. duty (act_on which states owed.stops unit) unit)

  are_cut : (calls : Which → List Duty) (left : List Which) (rest : List Duty) → rest ≡ flat_map listed left → AreCut calls left rest → AllByRecursion (λ which. calls which ≡ listed which) left
  are_cut calls [] rest is cut = tt
  are_cut calls (which ∷ left) rest is cut = (
    front (call_count which) (listed which) (flat_map listed left) rest (calls which) (list_length which) is cut.0,
    are_cut calls left (drop (call_count which) rest) (after (call_count which) (listed which) (flat_map listed left) rest (drop (call_count which) rest) (list_length which) is refl) cut.1,
  )

  pub are_parts : (all stops : List Duty) (calls : PlanCalls) → all ≡ calls_of owed order states → stops ≡ take (length owed.stops) all → AreCut (calls_in calls) give_order (drop (length owed.stops) all) →
      AreCallsOf owed order states stops (calls_in calls)
  are_parts all stops calls are stopped cut = record {
    are_stops = front (length owed.stops) (stop_calls owed) (flat_map listed give_order) all stops (stops_length owed) are stopped;
    are_listed = each_given (λ which. calls_in calls which ≡ listed which)
        (are_cut (calls_in calls) give_order (drop (length owed.stops) all) (after (length owed.stops) (stop_calls owed) (flat_map listed give_order) all (drop (length owed.stops) all) (stops_length owed) are refl) cut);
  }
