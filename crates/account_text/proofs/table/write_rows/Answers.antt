use Rattle.std.proofs.Common.{ap, ◌∙◌}
use Rattle.std.proofs.lemmas.List.{take_all}
use Rattle.account_text.specs.Table.{table_text}
use Rattle.account_text.proofs.SoundLemmas.{utf8_more, written_more}
use Rattle.account_text.proofs.table.write_rows.Goals as goal

pub loop-row-preserved : goal.loop-row-preserved
loop-row-preserved g c = (
  written_more g.R.Row.line_of c.args.rows.now c.loop-row.row-index c.row-item.result c.loop-row.text.items _ c.loop-row-test.true c.row-item.is c.loop-row.invariant.0 c.in_ok-write_row.ensures.text,
  utf8_more g.R.Row.line_of c.args.rows.now c.loop-row.row-index c.row-item.result c.loop-row-test.true c.row-item.is c.loop-row.invariant.1 c.in_ok-write_row.ensures.utf8,
)

pub returns-clause-text : goal.returns-clause-text
returns-clause-text g c = c.from_vec.ensures ∙ c.loop-row.invariant.0 ∙ ap (table_text g.R.Row.line_of) (take_all c.loop-row.row-index c.args.rows.now c.loop-row-test.false)
