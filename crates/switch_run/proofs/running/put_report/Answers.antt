use Rattle.std.proofs.Common.{◌≡◌, [], Err, Result, ap, subst, sym, refl, ◌∙◌}
use Rattle.std.proofs.lemmas.Result.{err_from_is_err_and}
use Rattle.host_trait.specs.Sink.{IsPrefixOf}
use Rattle.dry_report.specs.Report.{IsReport}
use Rattle.dry_report.proofs.PutLemmas.{puts_as, puts_nothing}
use Rattle.switch_run.specs.declared.run_fault.RunFault.{RunFault}
use Rattle.switch_run.specs.Ending.{HasReported}
use Rattle.switch_run.specs.Output.{IsInReport}
use Rattle.switch_run.proofs.running.put_report.Goals as goal

pub returns-in_err-text-clause-output : goal.returns-in_err-text-clause-output
returns-in_err-text-clause-output g c =
    let p = err_from_is_err_and c.from_residual.result c.from_residual.ensures.1 in
    let sink = g.S.Sink.sink c.args.out.now in
    subst (λ (r : Result (Unit {0}) RunFault). HasReported c.args.plan.now sink sink r) (sym (p.1 ∙ ap (λ f. Err f) p.2)) (puts_nothing sink (λ more. more ≡ []) refl)

pub returns-in_err-put-clause-output : goal.returns-in_err-put-clause-output
returns-in_err-put-clause-output g c =
    let p = err_from_is_err_and c.from_residual-in_err-put.result c.from_residual-in_err-put.ensures.1 in
    let plan = c.args.plan.now in
    subst (λ (r : Result (Unit {0}) RunFault). HasReported plan (g.S.Sink.sink c.args.out.now) (g.S.Sink.sink c.put.new.self) r) (sym (p.1 ∙ ap (λ f. Err f) p.2))
    (λ w is. puts_as c.put.ensures.prefix (IsInReport plan.command w)
    (λ more prefix. record { report = c.in_ok-text.text; is_report = c.in_ok-text.ensures w is; begun = subst (λ t. IsPrefixOf t more) c.as_slice.ensures prefix }))

pub returns-clause-output : goal.returns-clause-output
returns-clause-output g c w is =
    puts_as c.in_ok-put.ensures.ok (IsReport c.args.plan.now.command w)
    (λ more same. subst (IsReport c.args.plan.now.command w) (sym (same ∙ c.as_slice.ensures)) (c.in_ok-text.ensures w is))
