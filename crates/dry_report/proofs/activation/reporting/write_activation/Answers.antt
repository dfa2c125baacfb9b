use Rattle.std.proofs.Common.{◌++◌, ap, append_assoc, ◌∙◌}
use Rattle.std.proofs.lemmas.Result.{IfOk-weaker}
use Rattle.dry_report.specs.Lines.{etc_lines}
use Rattle.dry_report.specs.Activation.{account_lines}
use Rattle.dry_report.proofs.PlanLemmas.{told_of_plan}
use Rattle.dry_report.proofs.activation.reporting.write_activation.Goals as goal

pub returns : goal.returns
returns c =
    IfOk-weaker c.write_etc.result _ _
    (λ _ same system leaves is. (
      account_lines system leaves ++ etc_lines c.args.plan.now.etc.sorted,
      same ∙ ap (λ items. items ++ etc_lines c.args.plan.now.etc.sorted) (c.in_ok-write_accounts.ensures system leaves is.accounts)
          ∙ append_assoc c.args.out.now.items (account_lines system leaves) (etc_lines c.args.plan.now.etc.sorted),
      told_of_plan system leaves c.args.plan.now is,
    ))
    c.write_etc.ensures
