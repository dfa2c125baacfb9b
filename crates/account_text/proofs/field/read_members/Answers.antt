use Rattle.std.proofs.lemmas.Grind.{common_steps}
use Rattle.std.proofs.Common.{ap, ◌∙◌, filter, not, lit<, arith}
use Rattle.std.proofs.lemmas.Iterator.Consumers.{YieldsList-at, YieldsList-end}
use Rattle.std.proofs.lemmas.Iterator.Splits.{YieldsList-from_str_split}
use Rattle.switch_names.specs.Texts.{is_empty}
use Rattle.account_text.proofs.field.read_members.Goals as goal

pub returns : goal.returns
returns c =
    let split = c.split-member-items.ensures in
    let end = YieldsList-end
    (YieldsList-at c.into_iter-member-iterator.ensures.into_iter_gives (YieldsList-from_str_split 44 c.args.field.now (lit< tt) split.text split.has_more split.pattern))
    c.loop-member.yielded _ c.loop-member.yielded_by _ _ c.in-None.is c.next.ensures.steps in
    c.from_vec.ensures ∙ c.shrink_to_fit.ensures.items ∙ c.loop-member.invariant ∙ ap (λ names. filter (λ name. not (is_empty name)) names) end.0

pub loop-member-preserved : goal.loop-member-preserved
loop-member-preserved c = grind (arith, common_steps)
