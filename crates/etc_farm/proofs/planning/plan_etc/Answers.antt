use Rattle.std.proofs.Common.{◌∙◌, None, Some, sym}
use Rattle.std.proofs.lemmas.Result.{err_from_is_err_and}
use Rattle.host_trait.specs.declared.tree.HostFault.TheVariants.{Device}
use Rattle.host_trait.proofs.Moments.{told_before}
use Rattle.host_trait.proofs.Readings.{read_of, reads_of, reads_then}
use Rattle.tree_put.proofs.FoundLemmas.{told_still}
use Rattle.switch_parts.specs.declared.plan_fault.PlanFault.TheVariants.{Host}
use Rattle.switch_parts.proofs.Faults.{handed, host_device, memory_no_device, no_err}
use Rattle.etc_farm.proofs.PlanLemmas.{told_past}
use Rattle.etc_farm.proofs.planning.plan_etc.Goals as goal

pub look-requires : goal.look-requires
look-requires g c = record { found = told_still c.in_ok-manifest.ensures.reads.moments c.requires.found }

pub returns-in_err-manifest-clause-refused : goal.returns-in_err-manifest-clause-refused
returns-in_err-manifest-clause-refused g c why e =
    let p = err_from_is_err_and c.from_residual.result c.from_residual.ensures.1 in
    c.in_err-manifest.ensures.refused why (handed _ p.0 _ _ p.1 p.2 e)

pub returns-in_err-sorted-clause-reads : goal.returns-in_err-sorted-clause-reads
returns-in_err-sorted-clause-reads g c =
    let p = err_from_is_err_and c.from_residual-in_err-sorted.result c.from_residual-in_err-sorted.ensures.1 in
    reads_of (reads_then c.in_ok-manifest.ensures.reads (read_of c.in_err-sorted.ensures.reads _ (λ e. e))) _
    (λ e. host_device c.from_residual-in_err-sorted.result p.0 _ p.1 p.2 e)

pub returns-in_err-refuse-clause-refused : goal.returns-in_err-refuse-clause-refused
returns-in_err-refuse-clause-refused g c why e =
    let p = err_from_is_err_and c.from_residual-in_err-refuse.result c.from_residual-in_err-refuse.ensures.1 in
    told_past (g.T.Tree.host c.args.host.now) c.args.system.now c.args.owners c.in_ok-manifest.manifest c.in_ok-sorted.sorted (Some why) c.in_ok-manifest.ensures.few c.in_ok-manifest.ensures.manifest
    (told_before c.in_ok-manifest.ensures.reads.moments c.in_ok-sorted.ensures.sorted) (sym c.too_many.ensures ∙ c.in_err-refuse.ensures.refused why (handed _ p.0 _ _ p.1 p.2 e))

pub returns-in_err-refuse-clause-reads : goal.returns-in_err-refuse-clause-reads
returns-in_err-refuse-clause-reads g c =
    let p = err_from_is_err_and c.from_residual-in_err-refuse.result c.from_residual-in_err-refuse.ensures.1 in
    reads_of (reads_then c.in_ok-manifest.ensures.reads (read_of c.in_ok-sorted.ensures.reads _ (λ e. e))) _
    (λ e. absurd (c.in_err-refuse.ensures.no_host (handed _ p.0 _ _ p.1 p.2 e)))

pub returns-in_err-prepared-clause-reads : goal.returns-in_err-prepared-clause-reads
returns-in_err-prepared-clause-reads g c =
    let p = err_from_is_err_and c.from_residual-in_err-prepared.result c.from_residual-in_err-prepared.ensures.1 in
    reads_of (reads_then c.in_ok-manifest.ensures.reads (read_of c.in_ok-sorted.ensures.reads _ (λ e. e))) _
    (λ e. absurd (memory_no_device c.from_residual-in_err-prepared.result p.0 p.1 p.2 e))

pub returns-clause-plan : goal.returns-clause-plan
returns-clause-plan g c = record {
  has = λ w is. record {
    wanted = c.in_ok-manifest.ensures.manifest.has w is;
    apart = c.in_ok-manifest.ensures.apart.has w is;
    sorted = (told_before c.in_ok-manifest.ensures.reads.moments c.in_ok-sorted.ensures.sorted).has w is;
    prepared = c.in_ok-prepared.ensures;
  };
}

pub returns-clause-not_refused : goal.returns-clause-not_refused
returns-clause-not_refused g c =
    told_past (g.T.Tree.host c.args.host.now) c.args.system.now c.args.owners c.in_ok-manifest.manifest c.in_ok-sorted.sorted None c.in_ok-manifest.ensures.few c.in_ok-manifest.ensures.manifest
    (told_before c.in_ok-manifest.ensures.reads.moments c.in_ok-sorted.ensures.sorted) (sym c.too_many.ensures ∙ c.in_ok-refuse.ensures.not_refused)

pub returns-clause-others : goal.returns-clause-others
returns-clause-others g c = told_before c.in_ok-manifest.ensures.reads.moments c.in_ok-sorted.ensures.others

pub returns-clause-reads : goal.returns-clause-reads
returns-clause-reads g c =
    reads_of (reads_then c.in_ok-manifest.ensures.reads (read_of c.in_ok-sorted.ensures.reads _ (λ e. e))) _
    (λ e. absurd (no_err _ (Host Device) e))
