use Rattle.switch_parts.specs.declared.plan_fault.PlanFault.TheVariants.{Refused}
use Rattle.switch_parts.proofs.Faults.{same_err}
use Rattle.etc_farm.proofs.PlanLemmas.{told_refusal}
use Rattle.etc_farm.proofs.planning.read_manifest.Goals as goal

pub returns-in-Err-clause-refused : goal.returns-in-Err-clause-refused
returns-in-Err-clause-refused g c why e =
    let read = c.in-Err.ensures in
    told_refusal (g.T.Tree.host c.args.host.now) c.args.system.now c.args.owners.now c.in-Err.fault why read.many read.few_refused read.reserved read.entry read.owner
    (c.plan_fault.ensures.refused why (same_err c.plan_fault.result (Refused why) e))
