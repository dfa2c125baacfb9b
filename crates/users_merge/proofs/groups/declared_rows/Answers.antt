use Rattle.std.proofs.Common.{◌++◌, ◌∷◌, [], map, ap, ◌∙◌}
use Rattle.std.proofs.lemmas.List.{take_all}
use Rattle.account_text.specs.declared.group.GroupRow.{GroupRow}
use Rattle.users_merge.specs.ByName.{found_in}
use Rattle.users_merge.specs.GroupRows.{given_group, group_by}
use Rattle.users_merge.specs.Staying.{stays_by}
use Rattle.users_merge.proofs.CollectedLemmas.{mapped_next}
use Rattle.users_merge.proofs.groups.declared_rows.Goals as goal

pub loop-one-preserved : goal.loop-one-preserved
loop-one-preserved c =
    let one = c.one-item.result in
    mapped_next (given_group (stays_by c.args.users) (found_in c.args.old.now.rows)) c.args.given.now c.loop-one.one-index one c.loop-one.rows.items c.push.new.self.items c.loop-one-test.true c.one-item.is
    (c.in_ok-push.ensures.items
    ∙ ap (λ (row : GroupRow). c.loop-one.rows.items ++ row ∷ []) (c.in_ok-group_row.ensures ∙ ap (group_by (stays_by c.args.users) one.account.now one.id) c.find-row.ensures))
    c.loop-one.invariant

pub returns : goal.returns
returns c = c.loop-one.invariant ∙ ap (map (given_group (stays_by c.args.users) (found_in c.args.old.now.rows))) (take_all c.loop-one.one-index c.args.given.now c.loop-one-test.false)
