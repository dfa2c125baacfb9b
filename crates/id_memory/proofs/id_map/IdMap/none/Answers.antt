use Rattle.std.proofs.Common.{sym, subst}
use Rattle.id_memory.specs.Ids.{IsSortedList}
use Rattle.id_memory.proofs.RowLemmas.{none_is_sorted}
use Rattle.id_memory.proofs.id_map.IdMap.none.Goals as goal

pub invariant_of-result : goal.invariant_of-result
invariant_of-result c = subst IsSortedList (sym c.new.ensures) none_is_sorted
