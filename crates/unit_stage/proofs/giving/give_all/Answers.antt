use Rattle.std.proofs.Common.{◌≡◌, ◌≢◌, ◌<◌, ◌+◌, ◌++◌, ◌∷◌, ℕ, List, [], drop, get_or, length, refl, suc, sym, ap, subst, take, ◌∙◌, inl, rules}
use Rattle.std.proofs.lemmas.List.{take_all, take_more}
use Rattle.std.specs.List.{AllByRecursion, flat_map}
use Rattle.host_trait.specs.Host.{Becomes, HostState, Passes, Told}
use Rattle.host_trait.specs.World.{WorldState}
use Rattle.host_trait.proofs.Moments.{goes_on, leads_as, leads_then, started, told_after}
use Rattle.log_text.specs.declared.lists.Which.{Which}
use Rattle.log_text.specs.declared.lists.Which.TheVariants.{Starts}
use Rattle.owed_plan.specs.declared.duty.Duty.{Duty}
use Rattle.owed_plan.specs.Calls.{give_order}
use Rattle.unit_stage.specs.Acts.{CanPerform}
use Rattle.unit_stage.specs.PlanCalls.{calls_in}
use Rattle.unit_stage.specs.Steps.{HasLogFor, IsGiveMoment, IsListMoment, with_all_given, with_given}
use Rattle.unit_stage.proofs.GivenLemmas.{can_next, log_next}
use Rattle.unit_stage.proofs.ListCallLemmas.{others_first, split_at}
use Rattle.unit_stage.proofs.StepLemmas.{given_then, nothing_given, one_more_given}
use Rattle.unit_stage.proofs.giving.give_all.Goals as goal

-- the calls of some lists, and then those of one more
module _ (calls : Which → List Duty) (done : List Which) (which : Which) (left : List Which) {a b : HostState} (way : Passes a b (IsGiveMoment calls (done ++ which ∷ left))) (made : Becomes a b (with_all_given calls done)) where
  give_way : {c : HostState} → Passes b c (IsListMoment which (calls which)) → Passes a c (IsGiveMoment calls (done ++ which ∷ left))
  give_way next =
      goes_on way made next (IsGiveMoment calls (done ++ which ∷ left)) (λ w m is moment. moment)
      (λ w v m is is_v so_far moment. given_then calls done (which ∷ left) w m (inl (subst (λ (x : WorldState). IsListMoment which (calls which) x m) so_far moment)))

  give_made : {c : HostState} → Becomes b c (with_given which (calls which)) → Becomes a c (with_all_given calls (done ++ which ∷ []))
  give_made next =
      leads_then made next (λ w u. u ≡ with_all_given calls (done ++ which ∷ []) w)
      (λ w v u is is_v so_far then. then ∙ ap (with_given which (calls which)) so_far ∙ one_more_given calls done which w)

  next_can : Told a (λ w. CanPerform (flat_map calls (done ++ which ∷ left)) w.manager) → Told b (λ w. CanPerform (calls which) w.manager)
  next_can can =
      told_after way made (λ w. CanPerform (calls which) w.manager)
      (λ w v is so_far. subst (λ (x : WorldState). CanPerform (calls which) x.manager) (sym so_far) (can_next calls done which left w (can.has w is)))

  next_log : AllByRecursion (λ one. one ≢ Starts) done → Told a (λ w. (which : Which) → HasLogFor which (calls which) w.leaves) → Told b (λ w. HasLogFor which (calls which) w.leaves)
  next_log others log =
      told_after way made (λ w. HasLogFor which (calls which) w.leaves)
      (λ w v is so_far. subst (λ (x : WorldState). HasLogFor which (calls which) x.leaves) (sym so_far) (log_next calls done others which (calls which) w (log.has w is which)))

-- at the turn of a list
module _ (calls : Which → List Duty) (count : ℕ) (inside : count < length give_order) {a b : HostState} (way : Passes a b (IsGiveMoment calls give_order)) (made : Becomes a b (with_all_given calls (take count give_order))) where
  abbrev done : List Which
  done = take count give_order

  abbrev which : Which
  which = get_or give_order count Starts

  abbrev left : List Which
  left = drop (suc count) give_order

  split : give_order ≡ done ++ which ∷ left
  split = split_at Starts give_order count inside

  way_here : Passes a b (IsGiveMoment calls (done ++ which ∷ left))
  way_here = subst (λ order. Passes a b (IsGiveMoment calls order)) split way

  turn_way : {c : HostState} → Passes b c (IsListMoment which (calls which)) → Passes a c (IsGiveMoment calls give_order)
  turn_way {c} next = subst (λ order. Passes a c (IsGiveMoment calls order)) (sym split) (give_way calls done which left way_here made next)

  turn_made : {c : HostState} → Becomes b c (with_given which (calls which)) → Becomes a c (with_all_given calls (take (count + 1) give_order))
  turn_made {c} next = subst (λ order. Becomes a c (with_all_given calls order)) (sym (take_more give_order count Starts inside)) (give_made calls done which left way_here made next)

  turn_can : Told a (λ w. CanPerform (flat_map calls give_order) w.manager) → Told b (λ w. CanPerform (calls which) w.manager)
  turn_can can = next_can calls done which left way_here made (subst (λ order. Told a (λ w. CanPerform (flat_map calls order) w.manager)) split can)

  turn_log : Told a (λ w. (one : Which) → HasLogFor one (calls one) w.leaves) → Told b (λ w. HasLogFor which (calls which) w.leaves)
  turn_log log = next_log calls done which left way_here made (others_first count inside) log

pub loop-which-init : goal.loop-which-init
loop-which-init g c = record {
  way = started (IsGiveMoment (calls_in c.args.calls) give_order) (λ w is. nothing_given (calls_in c.args.calls) give_order w);
  made = record { to = λ w is. (w, is, refl) };
  cause = search rules;
}

pub give-requires-clause-calls : goal.give-requires-clause-calls
give-requires-clause-calls g c =
    turn_can (calls_in c.args.calls) c.loop-which.which-index c.loop-which-test.true c.loop-which.invariant.way c.loop-which.invariant.made c.requires.calls

pub give-requires-clause-log : goal.give-requires-clause-log
give-requires-clause-log g c =
    turn_log (calls_in c.args.calls) c.loop-which.which-index c.loop-which-test.true c.loop-which.invariant.way c.loop-which.invariant.made c.requires.log

pub returns-in_err-give-clause-moments : goal.returns-in_err-give-clause-moments
returns-in_err-give-clause-moments g c =
    turn_way (calls_in c.args.calls) c.loop-which.which-index c.loop-which-test.true c.loop-which.invariant.way c.loop-which.invariant.made c.give.ensures.moments

pub loop-which-preserved : goal.loop-which-preserved
loop-which-preserved g c =
    let calls = calls_in c.args.calls in
    record {
      way = turn_way calls c.loop-which.which-index c.loop-which-test.true c.loop-which.invariant.way c.loop-which.invariant.made c.give.ensures.moments;
      made = turn_made calls c.loop-which.which-index c.loop-which-test.true c.loop-which.invariant.way c.loop-which.invariant.made c.in_ok-give.ensures.ok;
      cause = search rules;
    }

pub returns-clause-ok : goal.returns-clause-ok
returns-clause-ok g c =
    let calls = calls_in c.args.calls in
    leads_as c.loop-which.invariant.made (λ w v. v ≡ with_all_given calls give_order w)
    (λ w v is made. made ∙ ap (λ order. with_all_given calls order w) (take_all c.loop-which.which-index give_order c.loop-which-test.false))
