use Rattle.std.proofs.lemmas.Result.{err_from_is_err_and}
use Rattle.switch_run.proofs.CollectingLemmas.{carried, handed, uncarried, unclosed, unreported}
use Rattle.switch_run.proofs.EndingLemmas.{sink_as, without_fault}
use Rattle.switch_run.proofs.collecting.run_planned_collection.Goals as goal

pub returns-in_err-put_collection_report : goal.returns-in_err-put_collection_report
returns-in_err-put_collection_report g c keep planned allowed =
    let p = err_from_is_err_and c.from_residual.result c.from_residual.ensures.1 in
    handed p.0 _ p.1 p.2
    (unreported keep c.args.collection.now planned allowed c.in_err-put_collection_report.field-0.0 c.in_err-put_collection_report.ensures.output c.in_err-put_collection_report.ensures.cause)

pub returns-in_err-apply : goal.returns-in_err-apply
returns-in_err-apply g c keep planned allowed =
    let p = err_from_is_err_and c.from_residual-in_err-apply.result c.from_residual-in_err-apply.ensures.1 in
    handed p.0 _ p.1 p.2
    (uncarried keep c.args.collection.now planned allowed c.in_ok-put_collection_report.ensures.output (sink_as c.put_collection_report.ensures.cause ⊥ (λ none. absurd none))
    c.requires.places c.apply.ensures.moments c.in_err-apply.field-0.0 c.in_err-apply.ensures.cause)

pub returns-in_err-put_last_line : goal.returns-in_err-put_last_line
returns-in_err-put_last_line g c keep planned allowed =
    let p = err_from_is_err_and c.from_residual-in_err-put_last_line.result c.from_residual-in_err-put_last_line.ensures.1 in
    handed p.0 _ p.1 p.2
    (unclosed keep c.args.collection.now planned allowed c.in_ok-put_collection_report.ensures.output (sink_as c.put_collection_report.ensures.cause ⊥ (λ none. absurd none))
    c.requires.places c.apply.ensures.moments c.in_ok-apply.ensures.ok (without_fault c.apply.ensures.cause)
    c.put_last_line.ensures.prefix c.in_err-put_last_line.field-0.0 c.in_err-put_last_line.ensures.cause)

pub returns : goal.returns
returns g c keep planned allowed =
    carried keep c.args.collection.now planned allowed c.in_ok-put_collection_report.ensures.output (sink_as c.put_collection_report.ensures.cause ⊥ (λ none. absurd none))
    c.requires.places c.apply.ensures.moments c.in_ok-apply.ensures.ok (without_fault c.apply.ensures.cause)
    c.in_ok-put_last_line.ensures.ok c.put_last_line.ensures.cause.later
