-- What is left once all is given, and what the calls of a list need.
use Rattle.std.proofs.Common.{◌≡◌, ◌≢◌, ◌⊎◌, ◌++◌, ◌∷◌, List, [], None, Some, map, refl, sym, ap, subst, ◌∙◌, inl, inr}
use Rattle.std.specs.FinMap.{get}
use Rattle.std.specs.List.{AllByRecursion, flat_map}
use Rattle.host_trait.specs.declared.entry.Act.{Act}
use Rattle.host_trait.specs.declared.unit_state.State.{State}
use Rattle.host_trait.specs.World.{Leaves, WorldState, seen}
use Rattle.host_trait.proofs.Seen.{get_removed_here, seen_at}
use Rattle.log_text.specs.declared.lists.Lists.{Lists}
use Rattle.log_text.specs.declared.lists.Which.{Which}
use Rattle.log_text.specs.declared.lists.Which.TheVariants.{Starts}
use Rattle.log_text.specs.Lists.{list_names, no_lists, with_list}
use Rattle.owed_lists.specs.Lists.{place_of}
use Rattle.owed_log.specs.Laws.{AreAlone, NoneOld}
use Rattle.owed_log.specs.Places.{log_place}
use Rattle.owed_log.proofs.ContentLemmas.{log_other}
use Rattle.owed_log.proofs.MomentLemmas.{file_law}
use Rattle.owed_plan.specs.declared.duty.Duty.{Duty}
use Rattle.owed_plan.specs.declared.owed.Owed.{Owed}
use Rattle.owed_plan.specs.Calls.{act_on, duty, give_order, listed_calls}
use Rattle.switch_names.specs.Names.{Name}
use Rattle.owed_plan.proofs.TableLemmas.{other_names}
use Rattle.unit_stage.specs.Acts.{CanPerform}
use Rattle.unit_stage.specs.Steps.{CanBring, HasLogFor, IsGiveMoment, IsListMoment, with_all_given, with_brought, with_given, with_loaded}
use Rattle.unit_stage.specs.System.{current_place, system_leaf}
use Rattle.unit_stage.proofs.CallingLemmas.{lists_without}
use Rattle.unit_stage.proofs.ElsewhereLemmas.{own_current}
use Rattle.unit_stage.proofs.ListCallLemmas.{AllTurns, AreOthers, are_others, at_turn, before_starts, by_turns, given_before, no_starts, set_list}
use Rattle.unit_stage.proofs.OwnedLemmas.{owned_not_stage}
use Rattle.unit_stage.proofs.RecordLemmas.{list_other}
use Rattle.unit_stage.proofs.StandLemmas.{all_given_current, current_alone, current_here, given_alone, given_manager, loaded_log}
use Rattle.unit_stage.proofs.StepLemmas.{can_first, can_then, given_log, log_as, one_more_given}

-- ---- calls and their list

pub no_names : (act : Name → Act) (names : List Name) → map (λ unit. duty (act unit) unit) names ≡ [] → names ≡ []
no_names act [] is = refl
no_names act (name ∷ names) is = absurd cc

-- without calls a list has no names; in place of those of the units to start an order has its calls
pub no_listed : (owed : Owed) (order : List Name) (states : Name → State) (which : Which) → which ≢ Starts → listed_calls owed order states which ≡ [] → list_names owed.lists which ≡ []
no_listed owed order states which other is = sym (other_names owed.lists order which other) ∙ no_names (act_on which states owed.stops) (list_names (with_list owed.lists Starts order) which) is

-- where names of a list have calls the log is a file
log_by : (leaves : Leaves) (lists : Lists) → AreAlone leaves lists → (which : Which) (act : Name → Act) (names : List Name) → list_names lists which ≡ names → HasLogFor which (map (λ unit. duty (act unit) unit) names) leaves
log_by leaves lists alone Starts act names is = tt
log_by leaves lists alone which act [] is = tt
log_by leaves lists alone which act (name ∷ names) is =
    file_law leaves lists alone (λ none. let no : name ∷ names ≡ [] = sym is ∙ ap (λ (l : Lists). list_names l which) none in cc no)

pub log_for : (owed : Owed) (order : List Name) (states : Name → State) (leaves : Leaves) → AreAlone leaves owed.lists → (which : Which) → HasLogFor which (listed_calls owed order states which) leaves
log_for owed order states leaves alone Starts = tt
log_for owed order states leaves alone which = log_by leaves owed.lists alone which (act_on which states owed.stops) (list_names owed.lists which) refl

-- ---- the calls of a list after those of others

module _ (calls : Which → List Duty) where
  -- they can be made, where all can be
  pub can_next : (done : List Which) (which : Which) (left : List Which) (w : WorldState) → CanPerform (flat_map calls (done ++ which ∷ left)) w.manager → CanPerform (calls which) (with_all_given calls done w).manager
  can_next [] which left w can = can_first (calls which) (flat_map calls left) w.manager can
  can_next (one ∷ done) which left w can =
      can_next done which left (with_given one (calls one) w)
      (subst (CanPerform (flat_map calls (done ++ which ∷ left))) (sym (given_manager one (calls one) w)) (can_then (calls one) (flat_map calls (done ++ which ∷ left)) w.manager can))

  -- and the log is a file still, where the starts aren't among the others
  pub log_next : (done : List Which) → AllByRecursion (λ one. one ≢ Starts) done → (which : Which) (more : List Duty) (w : WorldState) → HasLogFor which more w.leaves → HasLogFor which more (with_all_given calls done w).leaves
  log_next [] others which more w log = log
  log_next (one ∷ done) others which more w log = log_next done others.1 which more (with_given one (calls one) w) (given_log one which (calls one) more w others.0 log)

-- ---- the turn of a list

-- until its turn a list stands
stands_by : (which : Which) (done : List Which) (lists : Lists) → AllByRecursion (λ one. (one ≢ which) × (one ≢ Starts)) done → list_names (lists_without lists done) which ≡ list_names lists which
stands_by which [] lists all = refl
stands_by which (one ∷ done) lists all =
    stands_by which done (with_list lists one []) all.1 ∙ elim (set_list lists one [] which) [
      | inl same ↦ same
      | inr set ↦ absurd (all.0.0 set.1)
    ]

pub stands : (lists : Lists) (which : Which) → list_names (lists_without lists (given_before which)) which ≡ list_names lists which
stands lists which = stands_by which (given_before which) lists (at_turn AreOthers are_others which)

-- what holds of some lists and one more holds of that
last_of : (P : Which → Type 0) (done : List Which) (which : Which) → AllByRecursion P (done ++ which ∷ []) → P which
last_of P [] which all = all.0
last_of P (one ∷ done) which all = last_of P done which all.1

-- lists that are cleared, and then one more
pub without_more : (lists : Lists) (done : List Which) (which : Which) → with_list (lists_without lists done) which [] ≡ lists_without lists (done ++ which ∷ [])
without_more lists [] which = refl
without_more lists (one ∷ done) which = without_more (with_list lists one []) done which

-- a list that has no names is as it is without
same_without : (lists : Lists) (which : Which) → list_names lists which ≡ [] → with_list lists which [] ≡ lists
same_without lists Starts none = ap (with_list lists Starts) (sym none)
same_without lists which none = ap (with_list lists which) (sym none)

module _ (calls : Which → List Duty) (x : WorldState) where
  -- the world when a list has its turn
  abbrev pub world_at : Which → WorldState
  world_at which = with_all_given calls (given_before which) x

  module _ (lists : Lists) (alone : AreAlone x.leaves lists) (none : (which : Which) → which ≢ Starts → calls which ≡ [] → list_names lists which ≡ []) (log : (which : Which) → HasLogFor which (calls which) x.leaves) where
    -- where lists are given one after the other, the log is a file for each that has calls, and the lists that are left stand alone
    module _ (done : List Which) (others : AllByRecursion (λ one. one ≢ Starts) done) (which : Which) where
      log_then : HasLogFor which (calls which) (with_all_given calls done x).leaves
      log_then = log_next calls done others which (calls which) x (log which)

      alone_then : list_names (lists_without lists done) which ≡ list_names lists which → (which ≡ Starts → with_list (lists_without lists done) which [] ≡ no_lists) → AreAlone (with_all_given calls done x).leaves (lists_without lists done) →
          AreAlone (with_given which (calls which) (with_all_given calls done x)).leaves (with_list (lists_without lists done) which [])
      alone_then same last here =
          let left = lists_without lists done in
          given_alone which (calls which) (with_all_given calls done x) left here (λ other empty. same_without left which (same ∙ none which other empty)) last log_then

    -- so they do at each turn
    alone_turns : (done left : List Which) → AllTurns AreOthers done left → AreAlone (with_all_given calls done x).leaves (lists_without lists done) →
        AllTurns (λ before _ _. AreAlone (with_all_given calls before x).leaves (lists_without lists before)) done left
    alone_turns done [] turns here = tt
    alone_turns done (which ∷ []) turns here = (here, tt)
    alone_turns done (which ∷ (next ∷ left)) turns here =
        let other = (last_of (λ one. (one ≢ next) × (one ≢ Starts)) done which turns.1.0).1 in
        let given = alone_then done (no_starts which done turns.0) which (stands_by which done lists turns.0) (λ starts. absurd (other starts)) here in (
          here,
          alone_turns (done ++ which ∷ []) (next ∷ left) turns.1
              (subst (AreAlone (with_all_given calls (done ++ which ∷ []) x).leaves) (without_more lists done which)
              (subst (λ (y : WorldState). AreAlone y.leaves (with_list (lists_without lists done) which [])) (one_more_given calls done which x) given)),
        )

    pub log_at : (which : Which) → HasLogFor which (calls which) (world_at which).leaves
    log_at which = log_then (given_before which) (before_starts which) which

    -- the lists that are left stand alone at each turn, and in the end there are none
    pub alone_at : (which : Which) → AreAlone (world_at which).leaves (lists_without lists (given_before which))
    alone_at = at_turn (λ before _ _. AreAlone (with_all_given calls before x).leaves (lists_without lists before)) (alone_turns [] give_order are_others alone)

    pub alone_end : AreAlone (with_all_given calls give_order x).leaves no_lists
    alone_end = alone_then (given_before Starts) (before_starts Starts) Starts (stands lists Starts) (λ starts. refl) (alone_at Starts)

  -- a moment of the calls that are left is one of a list's at its turn, or all is given
  some_turn : (Q : Type 0) (u : WorldState) (done left : List Which) → AllTurns (λ before which _. IsListMoment which (calls which) (with_all_given calls before x) u → Q) done left →
      (u ≡ with_all_given calls left (with_all_given calls done x) → Q) → IsGiveMoment calls left (with_all_given calls done x) u → Q
  some_turn Q u done [] turns end is = end is
  some_turn Q u done (which ∷ left) turns end (inl moment) = turns.0 moment
  some_turn Q u done (which ∷ left) turns end (inr later) =
      let more = one_more_given calls done which x in
      some_turn Q u (done ++ which ∷ []) left turns.1 (λ is. end (is ∙ ap (with_all_given calls left) (sym more))) (subst (λ y. IsGiveMoment calls left y u) more later)

  pub in_some_turn : (u : WorldState) → IsGiveMoment calls give_order x u → ((which : Which) × IsListMoment which (calls which) (world_at which) u) ⊎ (u ≡ with_all_given calls give_order x)
  in_some_turn u moment =
      some_turn (((which : Which) × IsListMoment which (calls which) (world_at which) u) ⊎ (u ≡ with_all_given calls give_order x)) u [] give_order
      (by_turns (λ before which _. IsListMoment which (calls which) (with_all_given calls before x) u → ((which : Which) × IsListMoment which (calls which) (world_at which) u) ⊎ (u ≡ with_all_given calls give_order x))
      (λ which part. inl (which, part))) (λ is. inr is) moment

-- ---- the end

-- the link names the system, and neither the log nor a list is left
pub record Ended (system : Name) (leaves : Leaves) : Type 0 where
  pub current : get leaves current_place ≡ Some (system_leaf system)
  pub log : get leaves log_place ≡ None
  pub old : NoneOld leaves

module _ (system : Name) (calls : Which → List Duty) (v d : WorldState) (lists : Lists) (none : (which : Which) → which ≢ Starts → calls which ≡ [] → list_names lists which ≡ [])
    (alone : AreAlone v.leaves lists) (can : CanBring system calls v) (brought : seen d ≡ seen (with_brought system calls v)) where
  abbrev x : WorldState
  x = with_loaded system v

  abbrev end : WorldState
  end = with_all_given calls give_order x

  old_end : NoneOld end.leaves
  old_end = (alone_end calls x lists (current_alone system v lists alone) none (λ which. log_as which (calls which) x.leaves v.leaves (loaded_log system v x refl) (can.log which))).none_old

  pub ended : Ended system d.leaves
  ended = record {
    current = seen_at d end brought current_place (owned_not_stage current_place own_current) ∙ all_given_current calls give_order x ∙ current_here system v;
    log = seen_at d end brought log_place log_other ∙ get_removed_here (world_at calls x Starts).leaves log_place;
    old = λ which. seen_at d end brought (place_of which) (list_other which) ∙ old_end which;
  }
