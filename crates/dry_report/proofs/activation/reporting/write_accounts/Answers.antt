use Rattle.std.proofs.Common.{◌++◌, append_assoc, ap, ◌∙◌}
use Rattle.std.specs.List.{flat_map}
use Rattle.dry_report.specs.Lines.{kept_line, table_lines}
use Rattle.dry_report.proofs.PlanLemmas.{planned_lines, with_nothing}
use Rattle.dry_report.proofs.activation.reporting.write_accounts.Goals as goal

pub returns-in_ok-write_tables : goal.returns-in_ok-write_tables
returns-in_ok-write_tables c system leaves is =
    c.in_ok-write_tables.ensures
    ∙ ap (λ items. items ++ table_lines c.args.plan.now.tables c.in-Some.merged.tables) c.in_ok-write_all_kept.ensures
    ∙ append_assoc c.args.out.now.items (flat_map kept_line c.as_slice.result.now) (table_lines c.args.plan.now.tables c.in-Some.merged.tables)
    ∙ ap (λ text. c.args.out.now.items ++ text)
    (ap (λ kept. flat_map kept_line kept ++ table_lines c.args.plan.now.tables c.in-Some.merged.tables) c.as_slice.ensures ∙ planned_lines system leaves c.args.plan.now c.in-Some.merged c.in-Some.is is)

pub returns-in_default : goal.returns-in_default
returns-in_default c system leaves is = with_nothing c.args.out.now.items system leaves c.args.plan.now c.in_default.not-Some is
