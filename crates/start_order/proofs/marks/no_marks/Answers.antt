use Rattle.std.proofs.Common.{◌≡◌, false, length, replicate, ap, ◌∙◌, arith}
use Rattle.std.proofs.lemmas.Grind.{common_steps}
use Rattle.start_order.proofs.MarkLemmas.{none_taken}
use Rattle.start_order.proofs.marks.no_marks.Goals as goal

pub returns : goal.returns
returns c =
    let whole : c.loop.index ≡ length c.args.units.now = grind (arith, common_steps) in
    none_taken c.args.units.now c.args._edges.now c.args._left.now.keys _ c.requires (grind (arith, common_steps)) (grind (arith, common_steps))
    (c.loop.invariant.0 ∙ ap (λ n. replicate n false) whole) (c.loop.invariant.1 ∙ ap (λ n. replicate n 0) whole)
