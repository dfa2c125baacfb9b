use Rattle.std.proofs.Common.{ap, sym, ◌∙◌}
use Rattle.account_text.specs.Shadow.{shadow_row}
use Rattle.account_text.proofs.RowLemmas.{few_shadow, shadow_read, shadow_short}
use Rattle.account_text.proofs.shadow.shadow_fields.Goals as goal

pub returns-in_default : goal.returns-in_default
returns-in_default c = few_shadow _ c.in_default.ensures

pub returns-then-count_colons-ne6 : goal.returns-then-count_colons-ne6
returns-then-count_colons-ne6 c =
    ap shadow_row c.in-Some.ensures
    ∙ shadow_short c.in-Some.name.now c.in-Some.password.now c.in-Some.rest.now (λ six. c.if-count_colons-ne6.true (c.count_colons.ensures ∙ six))

pub returns : goal.returns
returns c =
    ap shadow_row c.in-Some.ensures
    ∙ shadow_read c.in-Some.name.now c.in-Some.password.now c.in-Some.rest.now (sym c.if-is_empty.ensures) (sym c.count_colons.ensures ∙ c.if-count_colons-ne6.false)
