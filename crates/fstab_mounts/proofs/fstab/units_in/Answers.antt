use Rattle.std.proofs.Common.{◌==◌, ap, ◌∙◌, rules, tests, arith}
use Rattle.std.proofs.lemmas.Grind.{common_steps}
use Rattle.std.proofs.lemmas.Iterator.Consumers.{YieldsList-at, YieldsList-end}
use Rattle.std.proofs.lemmas.Iterator.Splits.{YieldsList-from_slice_split}
use Rattle.std.proofs.lemmas.List.Elements.{filter_map-append}
use Rattle.std.specs.List.{filter_map}
use Rattle.fstab_mounts.specs.Fstab.{unit_of_line}
use Rattle.fstab_mounts.proofs.fstab.units_in.Goals as goal

pub loop-line-preserved : goal.loop-line-preserved
loop-line-preserved c = grind (arith, common_steps, filter_map-append)

pub returns : goal.returns
returns c =
    let split = c.split-line-items.ensures in
    let end = YieldsList-end
    (YieldsList-at c.into_iter-line-iterator.ensures.into_iter_gives
    (YieldsList-from_slice_split _ (λ byte. byte == 10) c.args.bytes.now (cc) (cc) split.closure (λ x b q k. search (rules, tests))))
    c.loop-line.yielded _ c.loop-line.yielded_by _ _ c.in-None.is c.next.ensures.steps in
    c.loop-line.invariant ∙ ap (λ lines. filter_map unit_of_line lines) end.0
