use Rattle.std.proofs.Common.{◌<◌, arith, sym, ◌∙◌}
use Rattle.leaf_limits.specs.Limits.{first_long}
use Rattle.switch_parts.proofs.LongLemmas.{long_before, long_none}
use Rattle.switch_parts.proofs.puts.long_with.Goals as goal

pub loop-k-init : goal.loop-k-init
loop-k-init c = record {
  inside = omega arith;
  first = sym (long_none c.args.found c.args.puts.now);
}

pub loop-k-preserved : goal.loop-k-preserved
loop-k-preserved c =
    let above : 0 < c.loop-k.k = omega arith in
    let inside = c.loop-k.invariant.inside in
    record {
      inside = omega arith;
      first =
          c.first_long-first.ensures
          ∙ (λ i. first_long (c.in_ok-long.ensures i) (c.loop-k.invariant.first i))
          ∙ sym (long_before c.args.found c.args.puts.now c.loop-k.k c.index-puts-k.result above inside c.index-puts-k.is);
    }
