use Rattle.std.proofs.Common.{sym, ◌∙◌}
use Rattle.std.specs.FinMap.{keys}
use Rattle.host_trait.proofs.KeyTests.{line_above, line_below}
use Rattle.host_trait.proofs.Readings.{read_handed, read_ok, read_then, told_read}
use Rattle.tree_put.proofs.blocked.is_blocked.Goals as goal

pub returns-then-below-clause-blocked : goal.returns-then-below-clause-blocked
returns-then-below-clause-blocked g c = record {
  has = λ w is. c.if-below.true ∙ line_below (keys w.leaves) c.args.at.now (sym (c.in_ok-below.ensures.below.has w is) ∙ c.if-below.true);
}

pub returns-clause-blocked : goal.returns-clause-blocked
returns-clause-blocked g c =
    let above = told_read c.has_leaf_below.ensures.reads c.in_ok-above.ensures.above in
    record {
      has = λ w is.
          above.has w is ∙ line_above (keys w.leaves) c.args.at.now (sym (c.in_ok-below.ensures.below.has w is) ∙ c.if-below.false);
    }

pub returns-in_err-above-clause-reads : goal.returns-in_err-above-clause-reads
returns-in_err-above-clause-reads g c = read_handed (read_then c.has_leaf_below.ensures.reads c.in_err-above.ensures.reads) _ c.from_residual-in_err-above.ensures.1

pub returns-clause-reads : goal.returns-clause-reads
returns-clause-reads g c = read_ok (read_then c.has_leaf_below.ensures.reads c.has_leaf_above.ensures.reads) c.in_ok-above.above
