use Rattle.std.proofs.Common.{Bool, false, Err, Result, List, ℕ, ap, subst, sym, refl, ◌∙◌}
use Rattle.std.proofs.lemmas.Result.{err_from_is_err_and}
use Rattle.std.specs.Result.{IsErrOf}
use Rattle.host_trait.specs.declared.tree.HostFault.TheVariants.{Device}
use Rattle.host_trait.specs.Sink.{IsPrefixOf}
use Rattle.dry_report.proofs.PutLemmas.{puts_as}
use Rattle.switch_run.specs.declared.run_fault.RunFault.{RunFault}
use Rattle.switch_run.specs.declared.run_fault.RunFault.TheVariants.{Host, Sink}
use Rattle.switch_run.specs.Rehearsing.{IsInRehearsal, IsRehearsing, Tells}
use Rattle.switch_run.proofs.EndingLemmas.{no_sink, ok_no_fault, sink_no_host, sink_then}
use Rattle.switch_run.proofs.running.run_rehearsal_with_jobs.Goals as goal

pub returns-in_err-put : goal.returns-in_err-put
returns-in_err-put g c =
    let p = err_from_is_err_and c.from_residual-in_err-put.result c.from_residual-in_err-put.ensures.1 in
    let sink = g.S.Sink.sink c.args.out.now in let put = g.S.Sink.sink c.put.new.self in
    subst (λ (r : Result Bool RunFault). IsRehearsing c.args.number sink put r) (sym (p.1 ∙ ap (λ f. Err f) p.2)) (record {
      come = puts_as c.put.ensures.prefix (IsInRehearsal c.args.number)
          (λ more prefix. record { text = c.in_ok-text.text; tells = c.in_ok-text.ensures; begun = subst (λ (t : List ℕ). IsPrefixOf t more) (c.as_bytes.ensures.value ∙ c.as_str.ensures) prefix });
      no_device = sink_no_host Device;
      sink_cause = sink_then (no_sink sink ⊥ (λ none. none)) c.in_err-put.ensures.cause (IsErrOf {T = Bool} (Err Sink) Sink) (λ e. refl);
    })

pub returns : goal.returns
returns g c =
    let sink = g.S.Sink.sink c.args.out.now in let put = g.S.Sink.sink c.put.new.self in
    record {
      come = (
        refl,
        puts_as c.in_ok-put.ensures.ok (Tells c.args.number)
            (λ more same. subst (Tells c.args.number) (sym (same ∙ c.as_bytes.ensures.value ∙ c.as_str.ensures)) c.in_ok-text.ensures),
      );
      no_device = λ e. ok_no_fault false (Host Device) e;
      sink_cause = record { later = c.put.ensures.cause.later; rose = λ e. absurd (ok_no_fault false Sink e) };
    }
