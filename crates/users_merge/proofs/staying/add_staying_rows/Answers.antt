use Rattle.std.proofs.Common.{◌++◌, filter, sym, ap, ◌∙◌, append-nil}
use Rattle.std.proofs.lemmas.List.{take_all}
use Rattle.users_merge.specs.Staying.{stays_by}
use Rattle.users_merge.proofs.CollectedLemmas.{staying_next}
use Rattle.users_merge.proofs.staying.add_staying_rows.Goals as goal

pub loop-row-init : goal.loop-row-init
loop-row-init g c = sym (append-nil c.args.rows.now.items)

pub loop-row-preserved : goal.loop-row-preserved
loop-row-preserved g c =
    staying_next (λ row. stays_by c.args.staying (g.R.Named.name_of row)) c.args.table.now c.loop-row.row-index c.row-item.result c.args.rows.now.items c.loop-row.rows.items _ c.loop-row-test.true c.row-item.is
    c.loop-row.invariant c.in_ok-add_staying_row.ensures

pub returns : goal.returns
returns g c =
    c.loop-row.invariant
    ∙ ap (λ rows. c.args.rows.now.items ++ filter (λ row. stays_by c.args.staying (g.R.Named.name_of row)) rows) (take_all c.loop-row.row-index c.args.table.now c.loop-row-test.false)
