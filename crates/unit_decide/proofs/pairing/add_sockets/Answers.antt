use Rattle.std.proofs.Common.{◌++◌, ap, ◌∙◌, filter, rules, tests, arith}
use Rattle.std.proofs.lemmas.Iterator.Consumers.{YieldsList-at, YieldsList-end}
use Rattle.std.proofs.lemmas.Iterator.Splits.{YieldsList-from_slice_split}
use Rattle.std.proofs.lemmas.Grind.{common_steps}
use Rattle.unit_text.specs.Lines.{is_blank}
use Rattle.unit_decide.specs.Sockets.{is_socket_name}
use Rattle.unit_decide.proofs.pairing.add_sockets.Goals as goal

pub returns : goal.returns
returns c =
    let split = c.split-word-items.ensures in
    let end = YieldsList-end
    (YieldsList-at c.into_iter-word-iterator.ensures.into_iter_gives
    (YieldsList-from_slice_split _ is_blank c.args.value.now (cc) (cc) split.closure (λ x b q k. search (rules, tests))))
    c.loop-word.yielded _ c.loop-word.yielded_by _ _ c.in-None.is c.next.ensures.steps in
    c.loop-word.invariant ∙ ap (λ xs. c.args.sockets.now ++ filter is_socket_name xs) end.0

pub loop-word-preserved : goal.loop-word-preserved
loop-word-preserved c = grind (arith, common_steps)
