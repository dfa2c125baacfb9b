use Rattle.std.proofs.Common.{◌++◌, ◌∷◌, [], List, None, ap, subst, sym, take, ◌∙◌}
use Rattle.std.proofs.lemmas.List.{take_all, take_more}
use Rattle.leaf_limits.specs.Limits.{AreWithin}
use Rattle.leaf_limits.proofs.LongLemmas.{stays_within}
use Rattle.leaf_limits.proofs.PastLemmas.{long_within}
use Rattle.switch_names.specs.Names.{Name}
use Rattle.switch_engine.proofs.sources.are_known_short.Goals as goal

pub loop-at-init : goal.loop-at-init
loop-at-init c leaves are q there = absurd cc

pub loop-at-preserved : goal.loop-at-preserved
loop-at-preserved c leaves are =
    let places = c.args.places.now in
    let i = c.loop-at.at-index in
    let more = sym (take_more places i c.at-item.result c.loop-at-test.true ∙ ap (λ (q : Name). take i places ++ q ∷ []) (sym c.at-item.is)) in
    let short = c.is_known_short.ensures leaves are c.if-not-is_known_short.false in
    subst (λ (done : List Name). AreWithin done leaves) more
    (stays_within (take i places) c.at-item.result leaves (long_within leaves c.at-item.result short) None (c.loop-at.invariant leaves are))

pub returns : goal.returns
returns c leaves are short =
    subst (λ (done : List Name). AreWithin done leaves) (take_all c.loop-at.at-index c.args.places.now c.loop-at-test.false) (c.loop-at.invariant leaves are)
