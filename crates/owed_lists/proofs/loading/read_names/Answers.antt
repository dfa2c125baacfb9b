use Rattle.std.proofs.lemmas.Grind.{common_steps}
use Rattle.std.proofs.Common.{◌==◌, ap, ◌∙◌, filter, rules, tests, arith}
use Rattle.std.proofs.lemmas.Iterator.Consumers.{YieldsList-at, YieldsList-end}
use Rattle.std.proofs.lemmas.Iterator.Splits.{YieldsList-from_slice_split}
use Rattle.switch_names.specs.UnitName.{is_unit}
use Rattle.owed_lists.proofs.loading.read_names.Goals as goal

pub returns : goal.returns
returns c =
    let split = c.split-line-items.ensures in
    let end = YieldsList-end
    (YieldsList-at c.into_iter-line-iterator.ensures.into_iter_gives
    (YieldsList-from_slice_split _ (λ byte. byte == 10) c.args.bytes.now (cc) (cc) split.closure (λ x b q k. search (rules, tests))))
    c.loop-line.yielded _ c.loop-line.yielded_by _ _ c.in-None.is c.next.ensures.steps in
    c.loop-line.invariant ∙ ap (λ xs. filter is_unit xs) end.0

pub loop-line-preserved : goal.loop-line-preserved
loop-line-preserved c = grind (arith, common_steps)
