use Rattle.std.proofs.Common.{◌≡◌, ◌&&◌, ◌||◌, true, ap, ◌∙◌, arith}
use Rattle.std.proofs.lemmas.Grind.{common_steps}
use Rattle.switch_names.specs.Names.{is_name}
use Rattle.start_order.specs.Edges.{has_pair, is_between}
use Rattle.start_order.proofs.BetweenLemmas.{pair_added}
use Rattle.start_order.proofs.between.add_between.Goals as goal

pub returns-in_ok-insert-clause-added : goal.returns-in_ok-insert-clause-added
returns-in_ok-insert-clause-added c before after =
    let is = is_between c.args.units.now c.args.edge.now in
    let holds : is ≡ true = grind (arith, common_steps) in
    let old = has_pair c.args.pairs.now.keys before after in
    pair_added c.args.pairs.now.keys c.insert.new.self.keys c.in_ok-copy.field-0 c.in_ok-copy-2.field-0 before after is holds (c.in_ok-insert.ensures.updates.0 (before, after))
    ∙ ap (λ n. old || (is && (is_name before n && is_name after c.in_ok-copy-2.field-0))) c.in_ok-copy.ensures
    ∙ ap (λ n. old || (is && (is_name before c.args.edge.now.before && is_name after n))) c.in_ok-copy-2.ensures
