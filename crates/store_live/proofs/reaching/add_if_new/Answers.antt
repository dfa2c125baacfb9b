use Rattle.std.proofs.Common.{◌||◌, sym, ap, ◌∙◌}
use Rattle.host_trait.proofs.UnitSets.{has_added}
use Rattle.switch_names.specs.Names.{Name, has, is_name}
use Rattle.store_live.proofs.SetLemmas.{left_new, left_old}
use Rattle.store_live.proofs.reaching.add_if_new.Goals as goal

pub returns-in_ok-insert : goal.returns-in_ok-insert
returns-in_ok-insert c = λ x.
    left_new c.args.left.now.keys c.insert.new.self.keys c.args.walked.now.keys c.args.name.now x
    (has_added c.args.left.now.keys c.insert.new.self.keys c.in_ok-copy.field-0 x (c.in_ok-insert.ensures.updates.0 x) ∙ ap (λ (n : Name). has c.args.left.now.keys x || is_name x n) c.in_ok-copy.ensures)
    (sym c.contains.ensures ∙ c.if-not-contains.true)

pub returns-else-not-contains : goal.returns-else-not-contains
returns-else-not-contains c = λ x. left_old c.args.left.now.keys c.args.walked.now.keys c.args.name.now x (sym c.contains.ensures ∙ c.if-not-contains.false)
