use Rattle.std.proofs.Common.{sym, ◌∙◌}
use Rattle.std.specs.FinMap.{keys}
use Rattle.host_trait.specs.LeafMap.{leaves_of}
use Rattle.host_trait.proofs.KeyTests.{line_above, line_below, line_cases}
use Rattle.host_trait.proofs.leaf_map.has_in_line.Goals as goal

pub returns-then-below : goal.returns-then-below
returns-then-below c = λ sound.
    let leaves = leaves_of c.args.leaves.now in
    line_cases leaves c.args.at.now c.in_ok-below.below (c.if-below.true ∙ line_below (keys leaves) c.args.at.now (sym (c.in_ok-below.ensures sound) ∙ c.if-below.true))

pub returns : goal.returns
returns c = λ sound.
    let leaves = leaves_of c.args.leaves.now in
    line_cases leaves c.args.at.now c.in_ok-above.above
    (c.in_ok-above.ensures ∙ line_above (keys leaves) c.args.at.now (sym (c.in_ok-below.ensures sound) ∙ c.if-below.false))
