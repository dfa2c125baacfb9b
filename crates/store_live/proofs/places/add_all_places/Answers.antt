use Rattle.std.proofs.Common.{List, ap, ◌∙◌}
use Rattle.std.proofs.lemmas.List.Folds.{list_any-append}
use Rattle.host_trait.proofs.Moments.{told_as}
use Rattle.host_trait.proofs.Readings.{nothing_read_ok, read_handed, read_ok, read_then, told_read}
use Rattle.host_trait.specs.World.{listed}
use Rattle.switch_names.specs.Names.{Name, has, is_name}
use Rattle.store_live.specs.Grown.{IsListedAt}
use Rattle.store_live.proofs.GrownLemmas.{grown_all, grown_end, grown_more, grown_start}
use Rattle.store_live.proofs.places.add_all_places.Goals as goal

pub loop-top-init : goal.loop-top-init
loop-top-init g c = record { reads = nothing_read_ok tt; grown = record { has = λ w is. grown_start (IsListedAt w.leaves) c.args.places.now } }

pub loop-top-preserved : goal.loop-top-preserved
loop-top-preserved g c =
    let added = told_read c.loop-top.invariant.reads c.in_ok-add_places.ensures.added in
    record {
      reads = read_ok (read_then c.loop-top.invariant.reads c.add_places.ensures.reads) tt;
      grown = record {
        has = λ w is.
            grown_more (IsListedAt w.leaves) c.args.tops.now c.loop-top.top-index c.top-item.result c.loop-top-test.true c.top-item.is c.args.places.now c.loop-top.places c.add_places.new.places
            (c.loop-top.invariant.grown.has w is)
            (grown_all c.loop-top.places c.add_places.new.places (listed c.top-item.result w.leaves) (IsListedAt w.leaves c.top-item.result)
            (λ x. ap (λ (l : List Name). has l x) (added.has w is) ∙ list_any-append (is_name x) c.loop-top.places (listed c.top-item.result w.leaves)) (λ x. (λ there. there, λ there. there)));
      };
    }

pub returns-clause-added : goal.returns-clause-added
returns-clause-added g c =
    told_as c.loop-top.invariant.grown _ (λ w is grown. grown_end (IsListedAt w.leaves) c.args.tops.now c.loop-top.top-index c.args.places.now c.loop-top.places c.loop-top-test.false grown)

pub returns-clause-reads : goal.returns-clause-reads
returns-clause-reads g c = read_ok c.loop-top.invariant.reads tt

pub returns-in_err-add_places-clause-reads : goal.returns-in_err-add_places-clause-reads
returns-in_err-add_places-clause-reads g c = read_handed (read_then c.loop-top.invariant.reads c.in_err-add_places.ensures.reads) _ c.from_residual.ensures.1
