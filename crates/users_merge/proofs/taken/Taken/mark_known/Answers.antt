use Rattle.std.proofs.Common.{List, ◌++◌, map, take, refl, subst, ◌∙◌}
use Rattle.std.proofs.lemmas.List.{take_all}
use Rattle.id_memory.specs.declared.id_row.IdRow.{IdRow}
use Rattle.users_merge.specs.Taken.{AreTaken}
use Rattle.users_merge.proofs.TakenLemmas.{ids_next}
use Rattle.users_merge.proofs.taken.Taken.mark_known.Goals as goal

pub loop-row-preserved : goal.loop-row-preserved
loop-row-preserved c = λ used marked are.
    subst (λ ids. AreTaken used ids c.mark.new.self)
    (ids_next (λ (row : IdRow). row.id) marked c.as_slice-row-items.result.now c.loop-row.row-index c.row-item.result c.row-item.result.id c.loop-row-test.true c.row-item.is refl)
    (c.mark.ensures used (marked ++ map (λ (row : IdRow). row.id) (take c.loop-row.row-index c.as_slice-row-items.result.now)) (c.loop-row.invariant used marked are))

pub returns-clause-marked : goal.returns-clause-marked
returns-clause-marked c = λ used marked are.
    subst (λ (rows : List IdRow). AreTaken used (marked ++ map (λ (row : IdRow). row.id) rows) c.loop-row.self)
    (take_all c.loop-row.row-index c.as_slice-row-items.result.now c.loop-row-test.false ∙ c.as_slice-row-items.ensures ∙ c.rows.ensures.rows) (c.loop-row.invariant used marked are)
