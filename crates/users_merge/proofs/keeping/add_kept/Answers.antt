use Rattle.users_merge.proofs.CollectedLemmas.{kept_next}
use Rattle.users_merge.proofs.keeping.add_kept.Goals as goal

pub loop-one-preserved : goal.loop-one-preserved
loop-one-preserved g c =
    kept_next c.args.user g.D.Declaration.asked c.args.given.now c.loop-one.one-index c.one-item.result c.args.kept.now c.loop-one.kept c.add_kept_one.new.kept c.loop-one-test.true c.one-item.is
    c.in_ok-add_kept_one.ensures c.loop-one.invariant
