use Rattle.account_text.specs.declared.group.GroupRow.{GroupRow}
use Rattle.account_text.specs.Group.{group_name}
use Rattle.etc_manifest.specs.Owners.{ids_in}
use Rattle.etc_manifest.proofs.OwnerLemmas.{ids_more, ids_none}
use Rattle.etc_manifest.proofs.owners.group_ids.Goals as goal

pub loop-row-init : goal.loop-row-init
loop-row-init c = ids_none group_name (λ (row : GroupRow). row.gid) c.args.rows.now c.new-ids.result c.new-ids.ensures.empty

pub loop-row-preserved : goal.loop-row-preserved
loop-row-preserved c =
    ids_more group_name (λ (row : GroupRow). row.gid) c.args.rows.now c.loop-row.row-index c.row-item.result (ids_in c.loop-row.ids) (ids_in c.add_id.new.ids)
    c.loop-row-test.true c.row-item.is c.loop-row.invariant c.in_ok-add_id.ensures
