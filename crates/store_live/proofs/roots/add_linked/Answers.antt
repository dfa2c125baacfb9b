use Rattle.host_trait.proofs.Moments.{told_as}
use Rattle.host_trait.proofs.Readings.{nothing_read_ok, read_handed, read_ok, read_then, told_read}
use Rattle.switch_names.specs.Names.{has}
use Rattle.store_live.specs.Grown.{IsLinkedAt}
use Rattle.store_live.proofs.GrownLemmas.{grown_end, grown_more, grown_start}
use Rattle.store_live.proofs.roots.add_linked.Goals as goal

pub loop-place-init : goal.loop-place-init
loop-place-init g c = record { reads = nothing_read_ok tt; grown = record { has = λ w is. grown_start (IsLinkedAt (has c.args.skipped.now.keys) w.leaves c.args.stored.now) c.args.roots.now.keys } }

pub loop-place-preserved : goal.loop-place-preserved
loop-place-preserved g c =
    let step = told_read c.loop-place.invariant.reads c.in_ok-add_linked_at.ensures.grown in
    record {
      reads = read_ok (read_then c.loop-place.invariant.reads c.add_linked_at.ensures.reads) tt;
      grown = record {
        has = λ w is.
            grown_more (IsLinkedAt (has c.args.skipped.now.keys) w.leaves c.args.stored.now) c.args.places.now c.loop-place.place-index c.place-item.result c.loop-place-test.true c.place-item.is c.args.roots.now.keys c.loop-place.roots.keys
            c.add_linked_at.new.roots.keys (c.loop-place.invariant.grown.has w is) (step.has w is);
      };
    }

pub returns-clause-grown : goal.returns-clause-grown
returns-clause-grown g c =
    told_as c.loop-place.invariant.grown _ (λ w is grown.
    grown_end (IsLinkedAt (has c.args.skipped.now.keys) w.leaves c.args.stored.now) c.args.places.now c.loop-place.place-index c.args.roots.now.keys c.loop-place.roots.keys c.loop-place-test.false grown)

pub returns-clause-reads : goal.returns-clause-reads
returns-clause-reads g c = read_ok c.loop-place.invariant.reads tt

pub returns-in_err-add_linked_at-clause-reads : goal.returns-in_err-add_linked_at-clause-reads
returns-in_err-add_linked_at-clause-reads g c = read_handed (read_then c.loop-place.invariant.reads c.in_err-add_linked_at.ensures.reads) _ c.from_residual.ensures.1
