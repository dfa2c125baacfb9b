use Rattle.std.proofs.Common.{List, ap, ◌∙◌}
use Rattle.account_text.specs.declared.passwd.PasswdRow.{PasswdRow}
use Rattle.users_merge.specs.ShadowRows.{merged_shadow}
use Rattle.users_merge.proofs.merging.ordered_tables.Goals as goal

pub returns-clause-shadow : goal.returns-clause-shadow
returns-clause-shadow c = c.in_ok-shadow.ensures ∙ ap (λ (rows : List PasswdRow). merged_shadow c.args.spec.now.mutable c.args.spec.now.users c.args.shadow.now rows) c.as_slice.ensures
