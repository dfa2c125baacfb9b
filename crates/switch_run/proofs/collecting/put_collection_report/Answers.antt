use Rattle.std.proofs.Common.{◌≡◌, ℕ, [], Err, List, Result, ap, subst, sym, refl, ◌∙◌}
use Rattle.std.proofs.lemmas.Result.{err_from_is_err_and}
use Rattle.dry_report.proofs.PutLemmas.{puts_as, puts_nothing}
use Rattle.host_trait.specs.Sink.{IsPrefixOf}
use Rattle.switch_run.specs.declared.run_fault.RunFault.{RunFault}
use Rattle.switch_run.specs.Collecting.{IsCollectionReport, IsInCollectionReport}
use Rattle.switch_run.specs.CollectionEnding.{HasReportedCollection}
use Rattle.switch_run.proofs.CollectingLemmas.{report_is}
use Rattle.switch_run.proofs.collecting.put_collection_report.Goals as goal

pub returns-in_err-text-clause-output : goal.returns-in_err-text-clause-output
returns-in_err-text-clause-output g c =
    let p = err_from_is_err_and c.from_residual.result c.from_residual.ensures.1 in
    let sink = g.S.Sink.sink c.args.out.now in
    subst (λ (r : Result (Unit {0}) RunFault). HasReportedCollection c.args.collection.now sink sink r) (sym (p.1 ∙ ap (λ f. Err f) p.2)) (puts_nothing sink (λ more. more ≡ []) refl)

pub returns-in_err-put-clause-output : goal.returns-in_err-put-clause-output
returns-in_err-put-clause-output g c =
    let p = err_from_is_err_and c.from_residual-in_err-put.result c.from_residual-in_err-put.ensures.1 in
    let collection = c.args.collection.now in
    subst (λ (r : Result (Unit {0}) RunFault). HasReportedCollection collection (g.S.Sink.sink c.args.out.now) (g.S.Sink.sink c.put.new.self) r) (sym (p.1 ∙ ap (λ f. Err f) p.2))
    (λ keep w is. puts_as c.put.ensures.prefix (IsInCollectionReport keep w)
    (λ more prefix. record {
      report = c.in_ok-text.text;
      is_report = report_is keep w collection c.in_ok-text.text is c.in_ok-text.ensures;
      begun = subst (λ (t : List ℕ). IsPrefixOf t more) c.as_slice.ensures prefix;
    }))

pub returns-clause-output : goal.returns-clause-output
returns-clause-output g c keep w is =
    puts_as c.in_ok-put.ensures.ok (IsCollectionReport keep w)
    (λ more same. subst (IsCollectionReport keep w) (sym (same ∙ c.as_slice.ensures)) (report_is keep w c.args.collection.now c.in_ok-text.text is c.in_ok-text.ensures))
