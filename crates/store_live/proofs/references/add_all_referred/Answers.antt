use Rattle.host_trait.proofs.Moments.{told_as}
use Rattle.host_trait.proofs.Readings.{nothing_read_ok, read_handed, read_ok, read_then, told_read}
use Rattle.store_live.specs.Grown.{IsReferredAt}
use Rattle.store_live.proofs.GrownLemmas.{grown_end, grown_more, grown_start}
use Rattle.store_live.proofs.references.add_all_referred.Goals as goal

pub loop-place-init : goal.loop-place-init
loop-place-init g c = record { reads = nothing_read_ok tt; grown = record { has = λ w is. grown_start (IsReferredAt w.leaves c.args.stored.now) c.args.found.now.keys } }

pub loop-place-preserved : goal.loop-place-preserved
loop-place-preserved g c =
    let step = told_read c.loop-place.invariant.reads c.in_ok-add_referred.ensures.grown in
    record {
      reads = read_ok (read_then c.loop-place.invariant.reads c.add_referred.ensures.reads) tt;
      grown = record {
        has = λ w is.
            grown_more (IsReferredAt w.leaves c.args.stored.now) c.args.places.now c.loop-place.place-index c.place-item.result c.loop-place-test.true c.place-item.is c.args.found.now.keys c.loop-place.found.keys
            c.add_referred.new.found.keys (c.loop-place.invariant.grown.has w is) (step.has w is);
      };
    }

pub returns-clause-grown : goal.returns-clause-grown
returns-clause-grown g c =
    told_as c.loop-place.invariant.grown _ (λ w is grown.
    grown_end (IsReferredAt w.leaves c.args.stored.now) c.args.places.now c.loop-place.place-index c.args.found.now.keys c.loop-place.found.keys c.loop-place-test.false grown)

pub returns-clause-reads : goal.returns-clause-reads
returns-clause-reads g c = read_ok c.loop-place.invariant.reads tt

pub returns-in_err-add_referred-clause-reads : goal.returns-in_err-add_referred-clause-reads
returns-in_err-add_referred-clause-reads g c = read_handed (read_then c.loop-place.invariant.reads c.in_err-add_referred.ensures.reads) _ c.from_residual.ensures.1
