use Rattle.std.proofs.Common.{ap, ◌∙◌, take, drop, length}
use Rattle.log_text.specs.declared.lists.Lists.{Lists}
use Rattle.start_order.specs.declared.ordered.Ordered.{Ordered}
use Rattle.unit_stage.proofs.PartLemmas.{are_parts}
use Rattle.unit_stage.proofs.plan_calls.calls_of.Goals as goal

pub returns : goal.returns
returns c states are =
    let plan = c.args.plan.now in
    let calls = c.as_slice-calls.result.now in let others = c.calls_after-others.result.now in let later = c.calls_after-later.result.now in let last = c.calls_after-last.result.now in
    let stops = ap length (c.as_slice-stops.ensures ∙ c.stops.ensures) in
    let reloads = ap length (c.as_slice-reloads.ensures ∙ ap (λ (lists : Lists). lists.reloads) c.recorded-lists.ensures) in
    let restarts = ap length (c.as_slice-restarts.ensures ∙ ap (λ (lists : Lists). lists.restarts) c.recorded-lists.ensures) in
    let starts = ap length (c.as_slice-starts.ensures ∙ ap (λ (ordered : Ordered). ordered.units) c.ordered.ensures) in
    let after_stops = c.calls_after-others.ensures ∙ ap (λ n. drop n calls) stops in
    let after_reloads = c.calls_after-later.ensures ∙ (λ i. drop (reloads i) (after_stops i)) in
    let after_restarts = c.calls_after-last.ensures ∙ (λ i. drop (restarts i) (after_reloads i)) in
    are_parts plan.owed plan.ordered.units states calls _
    (record { stops = c.first_calls.result; reloads = c.first_calls-2.result; restarts = c.first_calls-3.result; starts = c.first_calls-4.result }) (c.as_slice-calls.ensures ∙ c.duties.ensures ∙ are)
    (c.first_calls.ensures ∙ ap (λ n. take n calls) stops) (
      c.first_calls-2.ensures ∙ (λ i. take (reloads i) (after_stops i)),
      (c.first_calls-3.ensures ∙ (λ i. take (restarts i) (after_reloads i)), (c.first_calls-4.ensures ∙ (λ i. take (starts i) (after_restarts i)), tt)),
    )
