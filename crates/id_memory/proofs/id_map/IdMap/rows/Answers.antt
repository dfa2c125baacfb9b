use Rattle.std.proofs.Common.{subst, ◌∙◌, ap}
use Rattle.host_trait.specs.Ids.{Ids}
use Rattle.id_memory.specs.Ids.{AreIds, rows_of}
use Rattle.id_memory.proofs.RowLemmas.{are_ids, rows_are}
use Rattle.id_memory.proofs.id_map.IdMap.rows.Goals as goal

pub returns-clause-rows : goal.returns-clause-rows
returns-clause-rows c = rows_are c.self.inside.rows c.self.invariant ∙ ap (λ (ids : Ids). rows_of ids) c.self.view_is

pub returns-clause-are_ids : goal.returns-clause-are_ids
returns-clause-are_ids c = subst AreIds c.self.view_is (are_ids c.self.inside.rows c.self.invariant)
