use Rattle.std.proofs.Common.{◌≡◌, ◌+◌, drop, sym, ap, ◌∙◌, arith}
use Rattle.std.proofs.lemmas.List.{drop_all}
use Rattle.store_names.specs.Beginnings.{common}
use Rattle.store_names.proofs.ChainLemmas.{common_none}
use Rattle.store_names.proofs.beginnings.common.Goals as goal

-- the other text is at its end
pub returns-else-count-other : goal.returns-else-count-other
returns-else-count-other c =
    let count = c.loop-count.count in
    let one = c.args.one.now in
    let rest : common (drop count one) (drop count c.args.other.now) ≡ 0 = ap (common (drop count one)) (drop_all count c.args.other.now c.if-count-other.false) ∙ common_none (drop count one) in
    let last : count ≡ count + 0 = omega arith in
    last ∙ sym (c.loop-count.invariant.2 ∙ ap (λ n. count + n) rest)
