use Rattle.std.proofs.Common.{◌||◌, ap, ◌∙◌}
use Rattle.switch_names.specs.Names.{Name, has, is_name}
use Rattle.owed_plan.proofs.DecisionLemmas.{has_added}
use Rattle.owed_plan.proofs.collecting.add_if.Goals as goal

pub returns-in_ok-insert : goal.returns-in_ok-insert
returns-in_ok-insert c = λ unit.
    has_added c.args.set.now c.args.name.now unit _ c.args.is_added c.if-is_added.true
    (c.in_ok-insert.ensures.added unit ∙ ap (λ (name : Name). has c.args.set.now unit || is_name unit name) c.in_ok-copy.ensures)
