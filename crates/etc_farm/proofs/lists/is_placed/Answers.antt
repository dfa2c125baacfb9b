use Rattle.std.proofs.Common.{◌&&◌, not, ap, sym, ◌∙◌}
use Rattle.switch_names.specs.Names.{has}
use Rattle.etc_farm.proofs.lists.is_placed.Goals as goal

pub returns-then-is_made : goal.returns-then-is_made
returns-then-is_made c sorted =
    ap not (c.contains.ensures sorted) ∙ ap (λ made. made && not (has c.args.blocked.now c.args.item.now.place)) (sym c.if-is_made.true ∙ c.is_made.ensures)

pub returns-else-is_made : goal.returns-else-is_made
returns-else-is_made c sorted =
    c.if-is_made.false ∙ ap (λ made. made && not (has c.args.blocked.now c.args.item.now.place)) (sym c.if-is_made.false ∙ c.is_made.ensures)
