use Rattle.std.proofs.Common.{◌≡◌, ◌==◌, ◌||◌, true, false, sym, ◌∙◌}
use Rattle.std.specs.List.{list_any}
use Rattle.unit_text.proofs.EndLemmas.{any_either}
use Rattle.unit_text.proofs.statement.has_bracket.Goals as goal

pub returns-then-contains : goal.returns-then-contains
returns-then-contains c =
    let name = c.args.name.now in
    let opens : true ≡ list_any (λ byte. byte == 91) name = sym c.if-contains.true ∙ c.contains.ensures.value in
    c.if-contains.true ∙ (λ i. opens i || list_any (λ byte. byte == 93) name) ∙ sym (any_either (λ byte. byte == 91) (λ byte. byte == 93) name)

pub returns-else-contains : goal.returns-else-contains
returns-else-contains c =
    let name = c.args.name.now in
    let opens : false ≡ list_any (λ byte. byte == 91) name = sym c.if-contains.false ∙ c.contains.ensures.value in
    c.contains-else-contains.ensures.value ∙ (λ i. opens i || list_any (λ byte. byte == 93) name) ∙ sym (any_either (λ byte. byte == 91) (λ byte. byte == 93) name)
