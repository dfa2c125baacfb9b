use Rattle.std.proofs.Common.{◌≤◌, IfSome, sym, subst}
use Rattle.switch_names.specs.Ids.{id_max}
use Rattle.id_memory.proofs.RowLemmas.{are_ids}
use Rattle.id_memory.proofs.id_map.IdMap.get.Goals as goal

pub returns-clause-bounded : goal.returns-clause-bounded
returns-clause-bounded c = subst (λ o. IfSome o (λ id. id ≤ id_max)) (sym c.id_in.ensures) (are_ids c.self.inside.rows c.self.invariant c.args.name.now)
