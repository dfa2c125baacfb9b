use Rattle.store_live.specs.Grown.{IsForeign}
use Rattle.store_live.proofs.GrownLemmas.{grown_end, grown_more, grown_start}
use Rattle.store_live.proofs.roots.add_all_foreign.Goals as goal

pub loop-path-init : goal.loop-path-init
loop-path-init c = grown_start IsForeign c.args.roots.now.keys

pub loop-path-preserved : goal.loop-path-preserved
loop-path-preserved c =
    grown_more IsForeign c.args.stored.now c.loop-path.path-index c.path-item.result c.loop-path-test.true c.path-item.is c.args.roots.now.keys c.loop-path.roots.keys c.add_foreign.new.roots.keys
    c.loop-path.invariant c.in_ok-add_foreign.ensures

pub returns : goal.returns
returns c = grown_end IsForeign c.args.stored.now c.loop-path.path-index c.args.roots.now.keys c.loop-path.roots.keys c.loop-path-test.false c.loop-path.invariant
