use Rattle.std.proofs.Common.{◌≡◌, None, Some, ◌∙◌}
use Rattle.std.proofs.lemmas.Result.{err_from_is_err_and}
use Rattle.host_trait.specs.declared.tree.HostFault.TheVariants.{Device}
use Rattle.host_trait.proofs.Moments.{told_as, told_before}
use Rattle.host_trait.proofs.Readings.{reads_of, reads_then}
use Rattle.switch_parts.specs.declared.plan_fault.PlanFault.TheVariants.{Host}
use Rattle.switch_parts.proofs.Faults.{handed, no_err}
use Rattle.tree_put.proofs.FoundLemmas.{told_still}
use Rattle.activation_stage.specs.ActivationPart.{activation_in}
use Rattle.activation_stage.proofs.ActivationLemmas.{first_refusal, owners_planned, second_refusal}
use Rattle.activation_stage.proofs.planning.plan_activation.Goals as goal

pub returns-in_err-accounts-clause-refused : goal.returns-in_err-accounts-clause-refused
returns-in_err-accounts-clause-refused g c why e =
    let p = err_from_is_err_and c.from_residual.result c.from_residual.ensures.1 in
    told_as (c.in_err-accounts.ensures.refused why (handed _ p.0 _ _ p.1 p.2 e)) (λ w. (activation_in c.args.system.now w.leaves).refusal w.leaves ≡ Some why)
    (λ w is refused. first_refusal c.args.system.now w.leaves why refused)

pub returns-in_err-etc-clause-refused : goal.returns-in_err-etc-clause-refused
returns-in_err-etc-clause-refused g c why e =
    let p = err_from_is_err_and c.from_residual-in_err-etc.result c.from_residual-in_err-etc.ensures.1 in
    let system = c.args.system.now in
    told_as (told_before c.in_ok-accounts.ensures.reads.moments (c.in_err-etc.ensures.refused why (handed _ p.0 _ _ p.1 p.2 e)))
    (λ w. (activation_in system w.leaves).refusal w.leaves ≡ Some why)
    (λ w is refused.
    second_refusal system w.leaves c.in_ok-owners.owners (Some why) (c.in_ok-accounts.ensures.not_refused.has w is)
    (owners_planned system w.leaves c.tables_after.result.now c.in_ok-owners.owners (c.tables_after.ensures system w.leaves (c.in_ok-accounts.ensures.plan.has w is)) c.in_ok-owners.ensures)
    refused)

pub returns-in_err-etc-clause-reads : goal.returns-in_err-etc-clause-reads
returns-in_err-etc-clause-reads g c =
    let p = err_from_is_err_and c.from_residual-in_err-etc.result c.from_residual-in_err-etc.ensures.1 in
    reads_of (reads_then c.in_ok-accounts.ensures.reads c.in_err-etc.ensures.reads) _ (λ e. handed _ p.0 _ _ p.1 p.2 e)

pub returns-clause-plan : goal.returns-clause-plan
returns-clause-plan g c = record {
  has = λ w is. record {
    accounts = c.in_ok-accounts.ensures.plan.has w is;
    etc = (told_before c.in_ok-accounts.ensures.reads.moments c.in_ok-etc.ensures.plan).has w is;
    owners =
        c.in_ok-etc.ensures.owners
        ∙ owners_planned c.args.system.now w.leaves c.tables_after.result.now c.in_ok-owners.owners (c.tables_after.ensures c.args.system.now w.leaves (c.in_ok-accounts.ensures.plan.has w is)) c.in_ok-owners.ensures;
  };
}

pub returns-clause-not_refused : goal.returns-clause-not_refused
returns-clause-not_refused g c =
    let system = c.args.system.now in
    told_as (told_before c.in_ok-accounts.ensures.reads.moments c.in_ok-etc.ensures.not_refused) (λ w. (activation_in system w.leaves).refusal w.leaves ≡ None)
    (λ w is free.
    second_refusal system w.leaves c.in_ok-owners.owners None (c.in_ok-accounts.ensures.not_refused.has w is)
    (owners_planned system w.leaves c.tables_after.result.now c.in_ok-owners.owners (c.tables_after.ensures system w.leaves (c.in_ok-accounts.ensures.plan.has w is)) c.in_ok-owners.ensures)
    free)

pub returns-clause-reads : goal.returns-clause-reads
returns-clause-reads g c = reads_of (reads_then c.in_ok-accounts.ensures.reads c.in_ok-etc.ensures.reads) _ (λ e. absurd (no_err _ (Host Device) e))

pub plan_etc-requires : goal.plan_etc-requires
plan_etc-requires g c = record { found = told_still c.in_ok-accounts.ensures.reads.moments c.in_ok-accounts.ensures.others }

pub returns-clause-others : goal.returns-clause-others
returns-clause-others g c = told_before c.in_ok-accounts.ensures.reads.moments c.in_ok-etc.ensures.others
