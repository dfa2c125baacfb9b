use Rattle.std.proofs.Common.{ap, drop, sym, ◌∙◌}
use Rattle.std.specs.Ordering.{ordering_then}
use Rattle.std.specs.declared.cmp.Ordering.{Ordering}
use Rattle.host_trait.specs.World.{bytes_cmp}
use Rattle.unit_defs.proofs.SearchLemmas.{compared_front}
use Rattle.unit_defs.proofs.answering.search.compare_front.Goals as goal

pub returns : goal.returns
returns c = λ rest.
    let tail : Ordering = bytes_cmp (drop c.min.result c.args.name.now) rest in
    compared_front c.min.result c.args.name.now c.args.front.now rest c.min.ensures
    ∙ ap (λ head. ordering_then (bytes_cmp head c.args.front.now) tail) (sym c.split_at.ensures.front)
    ∙ ap (λ o. ordering_then o tail) (sym c.cmp.ensures)
    ∙ ap (λ back. ordering_then c.cmp.result (bytes_cmp back rest)) (sym c.split_at.ensures.back)
