use Rattle.std.proofs.Common.{◌++◌, map, take, subst}
use Rattle.std.proofs.lemmas.List.{take_all}
use Rattle.users_merge.specs.Taken.{AreTaken}
use Rattle.users_merge.proofs.TakenLemmas.{ids_next}
use Rattle.users_merge.proofs.taken.Taken.take_rows.Goals as goal

pub loop-row-preserved : goal.loop-row-preserved
loop-row-preserved g c = λ used known are.
    subst (λ ids. AreTaken ids known c.take.new.self)
    (ids_next g.R.Numbered.id_of used c.args.rows.now c.loop-row.row-index c.row-item.result c.id.result c.loop-row-test.true c.row-item.is c.id.ensures)
    (c.in_ok-take.ensures (used ++ map g.R.Numbered.id_of (take c.loop-row.row-index c.args.rows.now)) known (c.loop-row.invariant used known are))

pub returns : goal.returns
returns g c = λ used known are.
    subst (λ rows. AreTaken (used ++ map g.R.Numbered.id_of rows) known c.loop-row.self) (take_all c.loop-row.row-index c.args.rows.now c.loop-row-test.false) (c.loop-row.invariant used known are)
