use Rattle.std.proofs.Common.{◌∙◌}
use Rattle.std.proofs.lemmas.Result.{IfOk-weaker}
use Rattle.account_text.proofs.LineLemmas.{utf8_row, no_row}
use Rattle.account_text.proofs.table.read_row.Goals as goal

pub returns-in-Ok : goal.returns-in-Ok
returns-in-Ok g c =
    IfOk-weaker c.read.result _ _ (λ row is. is ∙ utf8_row g.R.Row.row_of c.args.line.now c.in-Ok.text.now c.in-Ok.ensures.cases.0 c.in-Ok.ensures.cases.1) c.read.ensures

pub returns-in-Err : goal.returns-in-Err
returns-in-Err g c = no_row g.R.Row.row_of c.args.line.now c.in-Err.ensures.cases.0
