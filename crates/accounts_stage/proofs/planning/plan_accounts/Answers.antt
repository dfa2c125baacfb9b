use Rattle.std.proofs.Common.{◌≡◌, None, Some, ap, sym, ◌∙◌}
use Rattle.std.specs.Option.{option_or}
use Rattle.host_trait.specs.declared.tree.HostFault.TheVariants.{Device}
use Rattle.host_trait.proofs.Moments.{told_as}
use Rattle.host_trait.proofs.Readings.{read_of}
use Rattle.switch_parts.specs.declared.plan_fault.PlanFault.TheVariants.{Host, Refused}
use Rattle.switch_parts.specs.declared.refusal.What.TheVariants.{LeafBytes, Rows}
use Rattle.switch_parts.specs.Limits.{too_many}
use Rattle.switch_parts.proofs.Faults.{no_err}
use Rattle.accounts_stage.specs.AccountsPart.{accounts_refusal}
use Rattle.accounts_stage.specs.Plan.{IsAccountsPlanOf}
use Rattle.accounts_stage.proofs.AnsweringLemmas.{err_handed}
use Rattle.accounts_stage.proofs.PlanningLemmas.{first_refused, later_refused, length_is, memory_are, planned_for, rows_last, tables_are}
use Rattle.accounts_stage.proofs.planning.plan_accounts.Goals as goal

pub returns-in_err-judged-clause-refused : goal.returns-in_err-judged-clause-refused
returns-in_err-judged-clause-refused g c why e =
    told_as c.in_ok-texts.ensures.texts (λ w. accounts_refusal c.args.system.now w.leaves ≡ Some why)
    (λ w is same. first_refused c.args.system.now w.leaves c.in_ok-texts.texts same why (c.in_err-judged.ensures.judged.refused why (err_handed _ (Refused why) _ c.from_residual-in_err-judged.ensures.1 e)))

pub returns-in_err-plan-clause-refused : goal.returns-in_err-plan-clause-refused
returns-in_err-plan-clause-refused g c why e =
    let system = c.args.system.now in let texts = c.in_ok-texts in let judged = c.in_ok-judged in
    told_as texts.ensures.texts (λ w. accounts_refusal system w.leaves ≡ Some why)
    (λ w is same.
    let ok = judged.ensures.judged.ok in let fine = judged.ensures.judged.not_refused in
    later_refused system w.leaves texts.texts same judged.judged ok fine why
    ((c.in_err-plan.ensures.plan w.leaves (tables_are system w.leaves texts.texts same judged.judged ok fine) (memory_are system w.leaves texts.texts same)).refused why
    (err_handed _ (Refused why) _ c.from_residual-in_err-plan.ensures.1 e)))

pub returns-in_err-plan-clause-reads : goal.returns-in_err-plan-clause-reads
returns-in_err-plan-clause-reads g c =
    read_of c.read_account_texts.ensures.reads _ (λ e. absurd (c.in_err-plan.ensures.cause (err_handed _ (Host Device) _ c.from_residual-in_err-plan.ensures.1 e)))

pub returns-in_err-refuse-clause-refused : goal.returns-in_err-refuse-clause-refused
returns-in_err-refuse-clause-refused g c why e =
    let system = c.args.system.now in let texts = c.in_ok-texts in let judged = c.in_ok-judged in
    told_as texts.ensures.texts (λ w. accounts_refusal system w.leaves ≡ Some why)
    (λ w is same.
    let ok = judged.ensures.judged.ok in let fine = judged.ensures.judged.not_refused in
    rows_last system w.leaves texts.texts same judged.judged ok fine c.in_ok-plan.plan
    (c.in_ok-plan.ensures.plan w.leaves (tables_are system w.leaves texts.texts same judged.judged ok fine) (memory_are system w.leaves texts.texts same))
    ∙ sym (c.or.ensures ∙ (λ i. option_or ((c.too_many-many.ensures ∙ ap (too_many Rows) c.plan_past.ensures) i)
    ((c.too_many.ensures ∙ ap (too_many LeafBytes) c.long.ensures ∙ length_is system w.leaves texts.texts same) i))) ∙ c.in_err-refuse.ensures.refused why (err_handed _ (Refused why) _ c.from_residual-in_err-refuse.ensures.1 e))

pub returns-in_err-refuse-clause-reads : goal.returns-in_err-refuse-clause-reads
returns-in_err-refuse-clause-reads g c =
    read_of c.read_account_texts.ensures.reads _ (λ e. absurd (c.in_err-refuse.ensures.no_host (err_handed _ (Host Device) _ c.from_residual-in_err-refuse.ensures.1 e)))

pub returns-clause-plan : goal.returns-clause-plan
returns-clause-plan g c =
    let system = c.args.system.now in let texts = c.in_ok-texts in let judged = c.in_ok-judged in
    told_as texts.ensures.texts (λ w. IsAccountsPlanOf system w.leaves c.in_ok-plan.plan)
    (λ w is same.
    let ok = judged.ensures.judged.ok in let fine = judged.ensures.judged.not_refused in
    planned_for system w.leaves texts.texts same judged.judged ok fine c.in_ok-plan.plan
    (c.in_ok-plan.ensures.plan w.leaves (tables_are system w.leaves texts.texts same judged.judged ok fine) (memory_are system w.leaves texts.texts same)))

pub returns-clause-not_refused : goal.returns-clause-not_refused
returns-clause-not_refused g c =
    let system = c.args.system.now in let texts = c.in_ok-texts in let judged = c.in_ok-judged in
    told_as texts.ensures.texts (λ w. accounts_refusal system w.leaves ≡ None)
    (λ w is same.
    let ok = judged.ensures.judged.ok in let fine = judged.ensures.judged.not_refused in
    rows_last system w.leaves texts.texts same judged.judged ok fine c.in_ok-plan.plan
    (c.in_ok-plan.ensures.plan w.leaves (tables_are system w.leaves texts.texts same judged.judged ok fine) (memory_are system w.leaves texts.texts same))
    ∙ sym (c.or.ensures ∙ (λ i. option_or ((c.too_many-many.ensures ∙ ap (too_many Rows) c.plan_past.ensures) i)
    ((c.too_many.ensures ∙ ap (too_many LeafBytes) c.long.ensures ∙ length_is system w.leaves texts.texts same) i))) ∙ c.in_ok-refuse.ensures.not_refused)

pub returns-clause-reads : goal.returns-clause-reads
returns-clause-reads g c = read_of c.read_account_texts.ensures.reads _ (λ e. absurd (no_err c.in_ok-plan.plan (Host Device) e))
