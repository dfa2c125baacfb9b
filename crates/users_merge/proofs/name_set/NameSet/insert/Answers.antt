use Rattle.std.proofs.Common.{◌||◌, List, ap, ◌∙◌}
use Rattle.host_trait.proofs.UnitSets.{has_added}
use Rattle.switch_names.specs.Names.{Name, has, is_name}
use Rattle.users_merge.proofs.name_set.NameSet.insert.Goals as goal

pub returns : goal.returns
returns c = λ name.
    has_added c.self.inside.names.keys c.insert.new.self.keys c.args.name name (c.in_ok-insert.ensures.updates.0 name)
    ∙ ap (λ (names : List Name). has names name || is_name name c.args.name) c.self.view_is
