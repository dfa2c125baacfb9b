use Rattle.std.proofs.Common.{◌<◌, arith, cond, drop, Some, sym, ap, ◌∙◌}
use Rattle.host_trait.proofs.Readings.{nothing_read_ok, read_handed, read_ok, read_starved, read_then, told_read}
use Rattle.tree_put.specs.First.{first_in_the_way, lesser}
use Rattle.tree_put.proofs.FirstLemmas.{none_after, one_before}
use Rattle.tree_put.proofs.FoundLemmas.{told_still}
use Rattle.tree_put.proofs.first.first_in_the_way.Goals as goal

pub loop-k-init : goal.loop-k-init
loop-k-init g c = record {
  reads = nothing_read_ok tt;
  inside = omega arith;
  found = c.requires.found;
  first = record { has = λ w is. sym (none_after c.args.places.now w.leaves) };
}

pub returns-in_err-is_in_the_way-clause-reads : goal.returns-in_err-is_in_the_way-clause-reads
returns-in_err-is_in_the_way-clause-reads g c =
    read_handed (read_then c.loop-k.invariant.reads c.in_err-is_in_the_way.ensures.reads) _ c.from_residual.ensures.1

pub returns-in_err-lesser-clause-reads : goal.returns-in_err-lesser-clause-reads
returns-in_err-lesser-clause-reads g c = read_starved (read_then c.loop-k.invariant.reads c.is_in_the_way.ensures.reads) _ c.from_residual-in_err-lesser.ensures.1

pub loop-k-preserved-then-branch : goal.loop-k-preserved-then-branch
loop-k-preserved-then-branch g c =
    let told = told_read c.loop-k.invariant.reads c.in_ok-is_in_the_way.ensures.in_the_way in
    let above : 0 < c.loop-k.k = omega arith in
    let inside = c.loop-k.invariant.inside in
    record {
      reads = read_ok (read_then c.loop-k.invariant.reads c.is_in_the_way.ensures.reads) tt;
      inside = omega arith;
      found = told_read c.loop-k.invariant.reads c.in_ok-is_in_the_way.ensures.found;
      first = record {
        has = λ w is.
            ap Some (c.in_ok-lesser.ensures ∙ ap (lesser c.index-places-k.result.at) (c.loop-k.invariant.first.has w is))
            ∙ sym (one_before c.args.places.now w.leaves c.loop-k.k c.index-places-k.result above inside c.index-places-k.is
            ∙ ap (λ b. cond b (Some (lesser c.index-places-k.result.at (first_in_the_way (drop c.loop-k.k c.args.places.now) w.leaves))) (first_in_the_way (drop c.loop-k.k c.args.places.now) w.leaves)) (sym (told.has w is) ∙ c.if-branch.true));
      };
    }

pub loop-k-preserved : goal.loop-k-preserved
loop-k-preserved g c =
    let told = told_read c.loop-k.invariant.reads c.in_ok-is_in_the_way.ensures.in_the_way in
    let above : 0 < c.loop-k.k = omega arith in
    let inside = c.loop-k.invariant.inside in
    record {
      reads = read_ok (read_then c.loop-k.invariant.reads c.is_in_the_way.ensures.reads) tt;
      inside = omega arith;
      found = told_read c.loop-k.invariant.reads c.in_ok-is_in_the_way.ensures.found;
      first = record {
        has = λ w is.
            c.loop-k.invariant.first.has w is
            ∙ sym (one_before c.args.places.now w.leaves c.loop-k.k c.index-places-k.result above inside c.index-places-k.is
            ∙ ap (λ b. cond b (Some (lesser c.index-places-k.result.at (first_in_the_way (drop c.loop-k.k c.args.places.now) w.leaves))) (first_in_the_way (drop c.loop-k.k c.args.places.now) w.leaves)) (sym (told.has w is) ∙ c.if-branch.false));
      };
    }

pub is_in_the_way-requires-clause-found : goal.is_in_the_way-requires-clause-found
is_in_the_way-requires-clause-found g c = told_still c.loop-k.invariant.reads.moments c.loop-k.invariant.found
