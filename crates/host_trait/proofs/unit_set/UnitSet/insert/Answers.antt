use Rattle.std.proofs.Common.{◌||◌, List, ap, ◌∙◌}
use Rattle.switch_names.specs.Names.{Name, has, is_name}
use Rattle.host_trait.proofs.UnitSets.{has_added}
use Rattle.host_trait.proofs.unit_set.UnitSet.insert.Goals as goal

pub returns-clause-added : goal.returns-clause-added
returns-clause-added c = λ name.
    has_added c.self.inside.units.keys c.insert.new.self.keys c.args.unit name (c.in_ok-insert.ensures.updates.0 name)
    ∙ ap (λ (names : List Name). has names name || is_name name c.args.unit) c.self.view_is
