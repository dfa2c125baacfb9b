use Rattle.std.proofs.Common.{◌≡◌, Some, sym, ap, subst, ◌∙◌, rules}
use Rattle.account_text.specs.Reading.{lines_left}
use Rattle.account_text.proofs.LineLemmas.{IsReadUpTo, all_read, line_read, wrong_here}
use Rattle.account_text.proofs.table.all_rows.Goals as goal

pub returns-then-not-branch-clause-line : goal.returns-then-not-branch-clause-line
returns-then-not-branch-clause-line g c = λ number is.
    let cut = ap lines_left c.in-Some.is ∙ c.cut_line.ensures.cut in
    let wrong = wrong_here g.R.Row.row_of c.args.text.now c.loop-left.rows.items c.loop-left.number c.saturating_add-number.result c.cut_line.result.0.now
    (lines_left c.loop-left.left) (lines_left c.cut_line.result.1) c.loop-left.invariant cut (sym c.if-not-branch.true ∙ c.in_ok-take.ensures.fine) c.saturating_add-number.ensures in
    let same : c.saturating_add-number.result ≡ number = cc in
    wrong ∙ ap Some same

pub loop-left-preserved : goal.loop-left-preserved
loop-left-preserved g c =
    let cut = ap lines_left c.in-Some.is ∙ c.cut_line.ensures.cut in
    line_read g.R.Row.row_of c.args.text.now c.loop-left.rows.items c.take.new.rows.items c.loop-left.number c.saturating_add-number.result c.cut_line.result.0.now
    (lines_left c.loop-left.left) (lines_left c.cut_line.result.1) c.loop-left.invariant cut (sym c.if-not-branch.false ∙ c.in_ok-take.ensures.fine) c.in_ok-take.ensures.rows c.saturating_add-number.ensures

pub returns-clause-complete : goal.returns-clause-complete
returns-clause-complete g c =
    let none = subst (λ o. IsReadUpTo g.R.Row.row_of c.args.text.now c.loop-left.rows.items c.loop-left.number (lines_left o)) c.in_default.is c.loop-left.invariant in
    (all_read g.R.Row.row_of c.args.text.now c.loop-left.rows.items c.loop-left.number none).1

pub returns-clause-ok : goal.returns-clause-ok
returns-clause-ok g c =
    let none = subst (λ o. IsReadUpTo g.R.Row.row_of c.args.text.now c.loop-left.rows.items c.loop-left.number (lines_left o)) c.in_default.is c.loop-left.invariant in
    (all_read g.R.Row.row_of c.args.text.now c.loop-left.rows.items c.loop-left.number none).0

pub loop-left-init : goal.loop-left-init
loop-left-init g c = search rules steps 300000
