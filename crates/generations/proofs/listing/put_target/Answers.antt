use Rattle.std.proofs.Common.{Some, ap, cond, sym, ◌∙◌}
use Rattle.generations.specs.Targets.{target_in, target_with}
use Rattle.generations.proofs.Numbers.{found_at}
use Rattle.generations.proofs.listing.put_target.Goals as goal

pub returns-in_ok-insert : goal.returns-in_ok-insert
returns-in_ok-insert c = λ n.
    let generation = c.in-Some.generation in
    c.in_ok-insert.ensures.updates.0 n
    ∙ ap (λ b. cond b (Some generation.target) (target_in c.args.targets.now n)) (found_at generation.number n)
    ∙ ap (λ put. target_with put c.args.targets.now n) (sym c.in-Some.is)
