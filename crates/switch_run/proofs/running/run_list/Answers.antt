use Rattle.std.proofs.Common.{Bool, false, Err, Result, ap, subst, sym, refl, ◌∙◌}
use Rattle.std.proofs.lemmas.Result.{err_from_is_err_and}
use Rattle.std.specs.Result.{IsErrOf}
use Rattle.host_trait.specs.declared.tree.HostFault.TheVariants.{Device}
use Rattle.host_trait.specs.Sink.{IsPrefixOf, Puts}
use Rattle.host_trait.proofs.Causes.{causes, started_of}
use Rattle.host_trait.proofs.Moments.{told_as}
use Rattle.dry_report.proofs.PutLemmas.{puts_as}
use Rattle.switch_run.specs.declared.run_fault.RunFault.{RunFault}
use Rattle.switch_run.specs.declared.run_fault.RunFault.TheVariants.{Host, Sink}
use Rattle.switch_run.specs.Listing.{IsInList, IsListing, IsListOf}
use Rattle.switch_run.proofs.EndingLemmas.{no_sink, ok_no_fault, sink_no_host, sink_then, without_fault}
use Rattle.switch_run.proofs.running.run_list.Goals as goal

pub returns-in_err-put : goal.returns-in_err-put
returns-in_err-put g c =
    let p = err_from_is_err_and c.from_residual-in_err-put.result c.from_residual-in_err-put.ensures.1 in
    let sink = g.S.Sink.sink c.args.out.now in let put = g.S.Sink.sink c.put.new.self in
    subst (λ (r : Result Bool RunFault). IsListing (g.H.Tree.host c.args.host.now) (g.H.Tree.host c.all.new.host) sink put r) (sym (p.1 ∙ ap (λ f. Err f) p.2)) (record {
      come = told_as c.in_ok-gens.ensures.gens (λ w. Puts sink put (IsInList w))
          (λ w is gens. puts_as c.put.ensures.prefix (IsInList w)
          (λ more prefix. record {
            text = c.in_ok-text.text;
            is_list = record { gens = c.in_ok-gens.gens; are = gens; is_text = c.in_ok-text.ensures };
            begun = subst (λ t. IsPrefixOf t more) c.as_slice.ensures prefix;
          }));
      unchanged = c.all.ensures.reads.moments;
      cause = causes (started_of ⊥ (λ none. none)) (without_fault c.all.ensures.reads.cause) (λ e. sink_no_host Device e);
      sink_cause = sink_then (no_sink sink ⊥ (λ none. none)) c.in_err-put.ensures.cause (IsErrOf {T = Bool} (Err Sink) Sink) (λ e. refl);
    })

pub returns : goal.returns
returns g c =
    let sink = g.S.Sink.sink c.args.out.now in let put = g.S.Sink.sink c.put.new.self in
    record {
      come = (
        refl,
        told_as c.in_ok-gens.ensures.gens (λ w. Puts sink put (IsListOf w))
            (λ w is gens. puts_as c.in_ok-put.ensures.ok (IsListOf w)
            (λ more same. record { gens = c.in_ok-gens.gens; are = gens; is_text = same ∙ c.as_slice.ensures ∙ c.in_ok-text.ensures })),
      );
      unchanged = c.all.ensures.reads.moments;
      cause = causes (started_of ⊥ (λ none. none)) (without_fault c.all.ensures.reads.cause) (λ e. ok_no_fault false (Host Device) e);
      sink_cause = record { later = c.put.ensures.cause.later; rose = λ e. absurd (ok_no_fault false Sink e) };
    }
