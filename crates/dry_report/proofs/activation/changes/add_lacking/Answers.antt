use Rattle.std.proofs.Common.{◌||◌, sym, ap, ◌∙◌}
use Rattle.std.proofs.Math.Bool.{or-false}
use Rattle.switch_names.specs.Names.{has, is_name}
use Rattle.dry_report.proofs.ChangeLemmas.{is_lacking, never_lacking}
use Rattle.dry_report.proofs.activation.changes.add_lacking.Goals as goal

pub returns-in_ok-insert : goal.returns-in_ok-insert
returns-in_ok-insert c other =
    c.in_ok-insert.ensures other
    ∙ ap (λ b. has c.args.names.now other || b)
    (ap (is_name other) c.in_ok-copy.ensures ∙ is_lacking c.args.others.now c.args.name.now other (sym c.if-not-contains.ensures))

pub returns-else-not-contains : goal.returns-else-not-contains
returns-else-not-contains c other =
    sym (ap (λ b. has c.args.names.now other || b) (never_lacking c.args.others.now c.args.name.now other (sym c.if-not-contains.ensures)) ∙ or-false (has c.args.names.now other))
