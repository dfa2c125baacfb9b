use Rattle.std.proofs.lemmas.Grind.{common_steps}
use Rattle.std.proofs.Common.{ap, ◌∙◌, arith}
use Rattle.generations.specs.Gens.{listed_at}
use Rattle.generations.proofs.Entries.{all_listed, listed_is_lookup, rising_gens}
use Rattle.generations.proofs.listing.into_list.Goals as goal

pub returns-clause-rising : goal.returns-clause-rising
returns-clause-rising c =
    rising_gens c.args.targets.entries c.loop-number.list (all_listed c.loop-number.list c.loop-number.number-iterator c.args.targets.entries c.in-None.ensures.steps.0 c.loop-number.invariant)
    c.into_iter-number-iterator.ensures.into_iter_gives.5

pub returns-clause-exact : goal.returns-clause-exact
returns-clause-exact c = λ n.
    let all = all_listed c.loop-number.list c.loop-number.number-iterator c.args.targets.entries c.in-None.ensures.steps.0 c.loop-number.invariant in
    ap (λ list. listed_at list n) all ∙ listed_is_lookup c.args.targets.entries n

pub loop-number-preserved : goal.loop-number-preserved
loop-number-preserved c = grind (arith, common_steps)
