use Rattle.users_merge.specs.ByName.{found_in}
use Rattle.users_merge.specs.ShadowRows.{shadow_beside}
use Rattle.users_merge.proofs.CollectedLemmas.{made_next}
use Rattle.users_merge.proofs.shadow.shadow_rows.Goals as goal

pub loop-one-preserved : goal.loop-one-preserved
loop-one-preserved c =
    made_next (shadow_beside c.args.mutable (found_in c.args.users.now.rows) (found_in c.args.old.now.rows)) c.args.passwd.now c.loop-one.one-index c.one-item.result c.loop-one.rows c.add_shadow_row.new.rows
    c.loop-one-test.true c.one-item.is c.in_ok-add_shadow_row.ensures c.loop-one.invariant
