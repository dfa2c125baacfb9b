use Rattle.std.proofs.Common.{◌≡◌, ◌≢◌, ◌⊎◌, ◌==◌, Bool, List, true, false, length, sym, ap, subst, ◌∙◌, inl, inr}
use Rattle.std.proofs.lemmas.Bool.{both_ways}
use Rattle.std.proofs.lemmas.Result.{on_ok_weaker}
use Rattle.host_trait.specs.World.{IsFileAt}
use Rattle.host_trait.proofs.Moments.{leads_as, passes_as, started, told_as}
use Rattle.log_text.specs.declared.lists.Which.{Which}
use Rattle.log_text.specs.declared.lists.Which.TheVariants.{Starts}
use Rattle.owed_log.specs.Places.{log_place}
use Rattle.owed_plan.specs.declared.duty.Duty.{Duty}
use Rattle.unit_stage.specs.PlanCalls.{calls_in}
use Rattle.unit_stage.specs.Steps.{IsClearingMoment, IsListMoment, with_cleared, with_given}
use Rattle.unit_stage.proofs.StepLemmas.{same_given, same_listed, some_given, some_listed, some_logged}
use Rattle.unit_stage.proofs.giving.give.Goals as goal
use Rattle.unit_stage.proofs.giving.give.Goals.{else-not-takes_log-via-then-not-takes_log+else-is_empty, else-not-takes_log-via-else-not-takes_log}

-- another list than that of the starts has calls, where the log goes with it or the calls aren't none
has_calls : (which : Which) (calls listed : List Duty) (takes : Bool) → listed ≡ calls → (takes ≡ true → which ≡ Starts) → (takes ≡ true) ⊎ ((length listed == 0) ≡ false) → which ≢ Starts → (length calls == 0) ≡ false
has_calls which calls listed takes same starts (inl is) other = absurd (other (starts is))
has_calls which calls listed takes same starts (inr some) other = sym (ap (λ cs. length cs == 0) same) ∙ some

pub returns-then-is_empty-clause-ok : goal.returns-then-is_empty-clause-ok
returns-then-is_empty-clause-ok g c = record {
  to = λ w is. (
    w,
    is,
    same_given c.args.which (calls_in c.args.calls c.args.which) w (λ same. both_ways _ c.if-not-takes_log.true (c.takes_log.ensures.1 same))
        (sym (ap (λ cs. length cs == 0) c.of-listed.ensures) ∙ sym c.is_empty.ensures ∙ c.if-is_empty.true),
  );
}

pub returns-then-is_empty-clause-moments : goal.returns-then-is_empty-clause-moments
returns-then-is_empty-clause-moments g c =
    let which = c.args.which in let calls = calls_in c.args.calls c.args.which in
    started (IsListMoment which calls) (λ w is.
    same_listed which calls w (λ same. both_ways _ c.if-not-takes_log.true (c.takes_log.ensures.1 same))
    (sym (ap (λ cs. length cs == 0) c.of-listed.ensures) ∙ sym c.is_empty.ensures ∙ c.if-is_empty.true))

pub call_listed-requires-clause-file : goal.call_listed-requires-clause-file
call_listed-requires-clause-file g c other =
    let which = c.args.which in let calls = calls_in c.args.calls c.args.which in
    let some = has_calls which calls c.of-listed.result.now c.takes_log.result c.of-listed.ensures c.takes_log.ensures.0 (elim c.else-not-takes_log.branch [
      | else-not-takes_log-via-then-not-takes_log+else-is_empty b ↦ inr (sym b.is_empty.ensures ∙ b.if-is_empty.false)
      | else-not-takes_log-via-else-not-takes_log b ↦ inl b.if-not-takes_log.false
    ]) in
    told_as c.requires.log (λ w. IsFileAt w.leaves log_place) (λ w is log. some_logged which calls w.leaves (some other) other log)

pub returns-clause-ok : goal.returns-clause-ok
returns-clause-ok g c =
    let which = c.args.which in let calls = calls_in c.args.calls c.args.which in
    let some = has_calls which calls c.of-listed.result.now c.takes_log.result c.of-listed.ensures c.takes_log.ensures.0 (elim c.else-not-takes_log.branch [
      | else-not-takes_log-via-then-not-takes_log+else-is_empty b ↦ inr (sym b.is_empty.ensures ∙ b.if-is_empty.false)
      | else-not-takes_log-via-else-not-takes_log b ↦ inl b.if-not-takes_log.false
    ]) in
    on_ok_weaker c.call_listed.result
    (λ led. leads_as led (λ w v. v ≡ with_given which calls w) (λ w v is made. made ∙ ap (λ cs. with_cleared which cs w) c.of-listed.ensures ∙ some_given which calls w some))
    c.call_listed.ensures.ok

pub returns-clause-moments : goal.returns-clause-moments
returns-clause-moments g c =
    let which = c.args.which in let calls = calls_in c.args.calls c.args.which in
    let some = has_calls which calls c.of-listed.result.now c.takes_log.result c.of-listed.ensures c.takes_log.ensures.0 (elim c.else-not-takes_log.branch [
      | else-not-takes_log-via-then-not-takes_log+else-is_empty b ↦ inr (sym b.is_empty.ensures ∙ b.if-is_empty.false)
      | else-not-takes_log-via-else-not-takes_log b ↦ inl b.if-not-takes_log.false
    ]) in
    passes_as c.call_listed.ensures.moments (IsListMoment which calls)
    (λ w m is moment. some_listed which calls w m some (subst (λ cs. IsClearingMoment which cs w m) c.of-listed.ensures moment))
