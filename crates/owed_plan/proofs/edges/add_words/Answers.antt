use Rattle.std.proofs.Common.{◌&&◌, ◌||◌, List, ap, ◌∙◌, rules, tests}
use Rattle.std.proofs.lemmas.Iterator.Consumers.{YieldsList-at, YieldsList-end}
use Rattle.std.proofs.lemmas.Iterator.Splits.{YieldsList-from_slice_split}
use Rattle.switch_names.specs.Names.{Name, has}
use Rattle.unit_text.specs.Lines.{is_blank}
use Rattle.owed_plan.proofs.edges.add_words.Goals as goal

pub returns : goal.returns
returns c name =
    let split = c.split-word-items.ensures in
    let end = YieldsList-end
    (YieldsList-at c.into_iter-word-iterator.ensures.into_iter_gives
    (YieldsList-from_slice_split _ is_blank c.args.value.now (cc) (cc) split.closure (λ x b q k. search (rules, tests))))
    c.loop-word.yielded _ c.loop-word.yielded_by _ _ c.in-None.is c.next.ensures.steps in
    c.loop-word.invariant name ∙ ap (λ (xs : List Name). has c.args.named.now name || (has c.args.starts.now name && has xs name)) end.0
