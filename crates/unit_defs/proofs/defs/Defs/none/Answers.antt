use Rattle.unit_defs.proofs.NameLemmas.{no_defs}
use Rattle.unit_defs.proofs.defs.Defs.none.Goals as goal

pub invariant_of-result : goal.invariant_of-result
invariant_of-result c = no_defs _ _ _ _ c.new.ensures c.new-2.ensures c.new-3.ensures c.new-4.ensures
