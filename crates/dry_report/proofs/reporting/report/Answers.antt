use Rattle.std.proofs.Common.{inl, inr}
use Rattle.std.proofs.lemmas.Bool.{both_ways, cases_Bool}
use Rattle.dry_report.proofs.ReportLemmas.{if_ok_as, units_reported}
use Rattle.dry_report.proofs.reporting.report.Goals as goal

pub returns : goal.returns
returns c =
    if_ok_as c.unit_report.result c.unit_report.ensures _
    (λ text told w is.
    units_reported w c.args.plan.now text is
    (elim (cases_Bool c.args.plan.now.row.switches) [
      | inl on ↦ on
      | inr off ↦ absurd (both_ways c.boot_only.result c.if-boot_only.false (c.boot_only.ensures.1 off))
    ]) told)
