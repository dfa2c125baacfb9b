use Rattle.etc_clean.proofs.ListLemmas.{set_next}
use Rattle.etc_clean.proofs.order.set_of.Goals as goal

pub loop-name-preserved : goal.loop-name-preserved
loop-name-preserved c = λ q.
    set_next c.args.names.now c.loop-name.name-index c.name-item.result c.in_ok-copy.field-0 c.loop-name.set.keys c.insert.new.self.keys q c.loop-name-test.true c.name-item.is c.in_ok-copy.ensures
    (c.loop-name.invariant q) (c.in_ok-insert.ensures.updates.0 q)
