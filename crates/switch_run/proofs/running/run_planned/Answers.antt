use Rattle.std.proofs.lemmas.Result.{err_from_is_err_and}
use Rattle.switch_run.proofs.EndingLemmas.{handed, carried, changing, queried, querying, sink_as, uncarried, unclosed, unreported, without_fault}
use Rattle.switch_run.proofs.running.run_planned.Goals as goal

pub returns-in_err-put_report : goal.returns-in_err-put_report
returns-in_err-put_report g c =
    let p = err_from_is_err_and c.from_residual.result c.from_residual.ensures.1 in
    handed p.0 _ p.1 p.2
    (unreported c.args.plan.now c.requires.planned c.in_err-put_report.field-0.0 c.in_err-put_report.ensures.output c.in_err-put_report.ensures.cause)

pub returns-then-is_query : goal.returns-then-is_query
returns-then-is_query g c =
    queried c.args.plan.now c.requires.planned c.in_ok-put_report.ensures.output (sink_as c.put_report.ensures.cause ⊥ (λ none. absurd none))
    (querying c.is_query.ensures c.command.ensures c.if-is_query.true)

pub returns-in_err-outcome : goal.returns-in_err-outcome
returns-in_err-outcome g c =
    let p = err_from_is_err_and c.from_residual-in_err-outcome.result c.from_residual-in_err-outcome.ensures.1 in
    handed p.0 _ p.1 p.2
    (uncarried c.args.plan.now c.requires.planned c.in_ok-put_report.ensures.output (sink_as c.put_report.ensures.cause ⊥ (λ none. absurd none))
    (changing c.is_query.ensures c.command.ensures c.if-is_query.false) c.carry_out.ensures.moments c.in_err-outcome.field-0.0 c.in_err-outcome.ensures.cause)

pub returns-in_err-close : goal.returns-in_err-close
returns-in_err-close g c =
    let p = err_from_is_err_and c.from_residual-in_err-close.result c.from_residual-in_err-close.ensures.1 in
    handed p.0 _ p.1 p.2
    (unclosed c.args.plan.now c.requires.planned c.in_ok-put_report.ensures.output (sink_as c.put_report.ensures.cause ⊥ (λ none. absurd none))
    (changing c.is_query.ensures c.command.ensures c.if-is_query.false) c.carry_out.ensures.moments c.in_ok-outcome.ensures.ok c.in_ok-outcome.outcome.states c.in_ok-outcome.ensures.states
    c.close.ensures.prefix c.in_err-close.field-0.0 c.in_err-close.ensures.cause (without_fault c.carry_out.ensures.cause))

pub returns : goal.returns
returns g c =
    carried c.args.plan.now c.requires.planned c.in_ok-put_report.ensures.output (sink_as c.put_report.ensures.cause ⊥ (λ none. absurd none))
    (changing c.is_query.ensures c.command.ensures c.if-is_query.false) c.carry_out.ensures.moments c.in_ok-outcome.ensures.ok c.in_ok-outcome.outcome.states c.in_ok-outcome.ensures.states
    c.in_ok-outcome.ensures.quiet c.in_ok-outcome.outcome.failed c.in_ok-outcome.ensures.verdict c.in_ok-close.ensures.ok c.close.ensures.cause.later (without_fault c.carry_out.ensures.cause)
